use Rattle.std.proofs.Common.{◌≡◌, Bool, true, false, ◌+ℤ◌, ◌*ℤ◌, ap, ◌∙◌, sym, w64, SFits, to_z, of_z}
use Rattle.std.proofs.lemmas.Int.{to_z-of_z}
use Rattle.kinds.specs.Outcomes.{fits64}
use Rattle.kinds.proofs.Steps.{true_fits, both_fit, fused_made, fused_beyond}
use Rattle.kinds.proofs.step.fused.Goals as goal
use Rattle.kinds.proofs.step.fused.Goals.{After-sum_fits}

pub returns-then-is_unit : goal.returns-then-is_unit
returns-then-is_unit c =
    let fu = c.ranges.u in
    let fk = c.ranges.k in
    let fv = c.ranges.v in
    let b = both_fit c.args.u c.args.k c.args.v (simp to_z-of_z at c.if-not-unit_fits.ensures) in
    fused_made c.args.u c.args.k c.args.v c.ranges.u c.ranges.k c.ranges.v b.0 b.1

-- after both tests
module _ (c : After-sum_fits) where
  product : fits64 (c.args.k *ℤ c.args.v) ≡ true
  product =
      let fk = c.ranges.k in
      let fv = c.ranges.v in
      sym (simp to_z-of_z at c.if-not-product_fits.ensures)

  sum : c.args.u +ℤ to_z w64 (of_z w64 (to_z w64 (of_z w64 c.args.k) *ℤ to_z w64 (of_z w64 c.args.v))) ≡ c.args.u +ℤ c.args.k *ℤ c.args.v
  sum =
      let fk = c.ranges.k in
      let fv = c.ranges.v in
      let fp : SFits w64 (c.args.k *ℤ c.args.v) = true_fits _ product in
      simp to_z-of_z

  tested : (b : Bool) → b ≡ fits64 (to_z w64 (of_z w64 c.args.u) +ℤ to_z w64 (of_z w64 (to_z w64 (of_z w64 c.args.k) *ℤ to_z w64 (of_z w64 c.args.v)))) → fits64 (c.args.u +ℤ c.args.k *ℤ c.args.v) ≡ b
  tested b e =
      let fu = c.ranges.u in
      sym (e ∙ ap (λ z. fits64 (z +ℤ to_z w64 (of_z w64 (to_z w64 (of_z w64 c.args.k) *ℤ to_z w64 (of_z w64 c.args.v))))) (to_z-of_z w64 c.args.u c.ranges.u) ∙ ap fits64 sum)

pub returns-then-not-sum_fits : goal.returns-then-not-sum_fits
returns-then-not-sum_fits c =
    let a = (goal.at.returns-then-not-sum_fits c).After-sum_fits in
    fused_beyond c.args.u c.args.k c.args.v (product a) (tested a false c.if-not-sum_fits.ensures)

pub returns : goal.returns
returns c =
    let a = (goal.at.returns c).After-sum_fits in
    fused_made c.args.u c.args.k c.args.v c.ranges.u c.ranges.k c.ranges.v (product a) (tested a true c.if-not-sum_fits.ensures)
