-- Steps that may fail, and readers of a form.
use Rattle.std.proofs.Common.{◌≡◌, Some, None, Err, Option, sym, refl, subst, option_map}
use Rattle.std.specs.Option.{ok_or}
use Rattle.words.specs.declared.fault.Fault.{Fault}
use Rattle.words.specs.declared.fault.Fault.TheVariants as f
use Rattle.words.specs.Faults.{Refuses}
use Rattle.words.specs.Numbers.{Exactly}

pub refuses_map : (e : Fault) (P Q : Type 0) → (P → Q) → Refuses e P → Refuses e Q
refuses_map f.Form P Q h p = h p
refuses_map f.Memory P Q h p = tt

-- a reader of a form, made from the reader of another whose values are turned into these
pub exactly_map : {W A B : Type 0} (F : W → A → Type 0) (G : W → B → Type 0) (f : A → B) (w : W) (r : Option A) (s : Option B) → s ≡ option_map f r → ((a : A) → F w a → G w (f a)) → ((b : B) → G w b → (a : A) × F w a) → Exactly F w r → Exactly G w s
exactly_map {A = A} F G f w r s e to from h = subst (Exactly G w) (sym e) (mapped r h)
  where
    mapped : (r : Option A) → Exactly F w r → Exactly G w (option_map f r)
    mapped (Some a) h = to a h
    mapped None h = λ b g. let a = from b g in h a.0 a.1

-- a value that was not there, told as a refusal
pub form_refused : {A : Type 0} (o : Option A) (e : Fault) (Q : Type 0) → Err e ≡ ok_or o f.Form → (o ≡ None → Q) → Refuses e Q
form_refused None e Q h k = let P : Fault → Type 0 = λ x. Refuses x Q in let same : f.Form ≡ e = cc in subst P same (k refl)
form_refused (Some x) e Q h k = absurd (cc)
