-- Results that are refused, or carry a value.
use Rattle.std.specs.Prelude.{Bool, true, false, Ok, Err, Result}
use Rattle.records.specs.declared.refusal.Refusal.{Refusal}

-- Refused where the test is met. Tests are written one below the other; the first that is met decides.
abbrev pub guard : {A : Type 0} → Bool → Refusal → Result A Refusal → Result A Refusal
guard true e r = Err e
guard false e r = r

-- What was accepted goes on; a refusal stays.
abbrev pub onward : {A B : Type 0} → Result A Refusal → (A → Result B Refusal) → Result B Refusal
onward (Ok a) f = f a
onward (Err e) f = Err e

-- A result with f of its value.
abbrev pub image : {A B E : Type 0} → (A → B) → Result A E → Result B E
image f (Ok a) = Ok (f a)
image f (Err e) = Err e
