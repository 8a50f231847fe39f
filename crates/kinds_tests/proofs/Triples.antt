-- Three coordinates' outcomes, as that of a value with all three.
use Rattle.std.proofs.Common.{◌≡◌, Bool, true, false, cond, not, ◌||◌, List, [], ◌∷◌, ℤ, ◌+ℤ◌, ◌*ℤ◌, Ok, Err, Result, refl}
use Rattle.records.specs.declared.refusal.Refusal.{Refusal}
use Rattle.records.specs.declared.refusal.Refusal.TheVariants.{DoesNotFit}
use Rattle.kinds.specs.Outcomes.{misfit, fused_at, combined}

abbrev pub three : Result ℤ Refusal → Result ℤ Refusal → Result ℤ Refusal → Result (List ℤ) Refusal
three (Err e) s t = Err e
three (Ok x) (Err e) t = Err e
three (Ok x) (Ok y) (Err e) = Err e
three (Ok x) (Ok y) (Ok z) = Ok (x ∷ y ∷ z ∷ [])

three_cond : (p q r : Bool) (x y z : ℤ) → three (cond p (Err DoesNotFit) (Ok x)) (cond q (Err DoesNotFit) (Ok y)) (cond r (Err DoesNotFit) (Ok z)) ≡ cond (not (((false || p) || q) || r)) (Ok (x ∷ y ∷ z ∷ [])) (Err DoesNotFit)
three_cond true q r x y z = refl
three_cond false true r x y z = refl
three_cond false false true x y z = refl
three_cond false false false x y z = refl

pub combined_three : (a b c k x y z : ℤ) → three (fused_at a k x) (fused_at b k y) (fused_at c k z) ≡ combined (a ∷ b ∷ c ∷ []) k (x ∷ y ∷ z ∷ [])
combined_three a b c k x y z = three_cond (misfit a k x) (misfit b k y) (misfit c k z) (a +ℤ k *ℤ x) (b +ℤ k *ℤ y) (c +ℤ k *ℤ z)
