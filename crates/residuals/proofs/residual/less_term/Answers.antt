use Rattle.std.proofs.Common.{◌≡◌, ◌^◌, ◌<◌, ◌≤◌, ℤ, pos, ◌-ℤ◌, ◌*ℤ◌, neg_ℤ, nat_abs, sym, ap, ◌∙◌, ap₂, inl, inr, List, arith, w64, SFits, to_z, of_z}
use borrow.Author.Differences.{ints}
use Rattle.std.proofs.lemmas.Int.{to_z-of_z}
use Rattle.records.specs.declared.role.Role.{Role}
use Rattle.whole.proofs.Sizes.{product-≤, fits}
use Rattle.fractions.specs.Steps.{plus}
use Rattle.residuals.specs.Steps.{factor, taken}
use Rattle.residuals.proofs.residual.less_term.Goals as goal

negated : (z : ℤ) → nat_abs z < 2 ^ 63 → to_z w64 (of_z w64 (pos 0 -ℤ to_z w64 (of_z w64 z))) ≡ neg_ℤ z
negated z h = ap (λ (y : ℤ). to_z w64 (of_z w64 (pos 0 -ℤ y))) (to_z-of_z w64 z (fits z h)) ∙ to_z-of_z w64 (pos 0 -ℤ z) (omega (arith, ints)) ∙ less
  where
    less : pos 0 -ℤ z ≡ neg_ℤ z
    less = omega (arith, ints)

-- the factor of a wish, as code has it
minus : (d a : ℤ) → SFits w64 d → SFits w64 a → nat_abs d ≤ 45000 → nat_abs a ≤ 1000
    → to_z w64 (of_z w64 (pos 0 -ℤ to_z w64 (of_z w64 (to_z w64 (of_z w64 d) *ℤ to_z w64 (of_z w64 a))))) ≡ neg_ℤ (d *ℤ a)
minus d a fd fa hd ha =
    let h = product-≤ d a 45000 1000 hd ha in
    ap₂ (λ (x y : ℤ). to_z w64 (of_z w64 (pos 0 -ℤ to_z w64 (of_z w64 (x *ℤ y))))) (to_z-of_z w64 d fd) (to_z-of_z w64 a fa) ∙ negated (d *ℤ a) (omega arith)

pub returns-in-Pulled : goal.returns-in-Pulled
returns-in-Pulled g c =
    let f = g.K.Kind.coords in
    let subtracted = c.add-in-Pulled.ensures ∙ ap (λ (z : ℤ). plus (f c.args.sum) z (f c.args.wish)) (minus c.args.d c.args.coefficient c.ranges.d c.ranges.coefficient c.requires.over c.requires.small) in
    let by : Role → List ℤ = λ r. plus (f c.args.sum) (factor r c.args.d c.args.coefficient) (taken r (f c.args.wish) (f c.args.value)) in
    elim c.in-Pulled.is [ inl e ↦ subtracted ∙ ap by (sym e) | inr e ↦ subtracted ∙ ap by (sym e.1) ]
