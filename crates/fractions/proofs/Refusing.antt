-- What an accepted and a refused outcome of one test say.
use Rattle.std.proofs.Common.{◌≡◌, Bool, true, ◌⊎◌, false, Ok, Err, sym, inl, inr}
use Rattle.records.specs.Outcomes.{guard}
use Rattle.records.specs.declared.refusal.Refusal.{Refusal}
use Rattle.linear.proofs.Outcomes.{not_accepted, passed, refused_by}

pub guard_ok : {A : Type 0} (b : Bool) (e : Refusal) (a x : A) → Ok x ≡ guard b e (Ok a) → (x ≡ a) × (b ≡ false)
guard_ok b e a x h =
    let p = passed b e (Ok a) x (sym h) in
    let same : x ≡ a = cc in
    (same, p.0)

pub guard_err : {A : Type 0} (b : Bool) (e : Refusal) (a : A) (x : Refusal) → Err x ≡ guard b e (Ok a) → (x ≡ e) × (b ≡ true)
guard_err b e a x h = by (refused_by b e (Ok a) x (sym h))
  where
    by : ((b ≡ true) × (e ≡ x)) ⊎ ((b ≡ false) × (Ok a ≡ Err x)) → (x ≡ e) × (b ≡ true)
    by (inl t) = (sym t.1, t.0)
    by (inr f) = absurd (not_accepted x a (sym f.1))
