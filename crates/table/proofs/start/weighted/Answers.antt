use Rattle.std.proofs.Common.{◌≤◌, ◌*ℤ◌, nat_abs, arith, w64, SFits}
use Rattle.std.proofs.lemmas.Int.{to_z-of_z}
use Rattle.whole.proofs.Sizes.{product-≤, fits}
use Rattle.table.proofs.start.weighted.Goals as goal

module _ (c : goal.Start) where
  inner : nat_abs (c.args.x *ℤ c.args.y) ≤ 1000000
  inner = product-≤ c.args.x c.args.y 1000 1000 c.requires.1.0 c.requires.1.1

  both : nat_abs (c.args.v *ℤ (c.args.x *ℤ c.args.y)) ≤ 12000000
  both = product-≤ c.args.v (c.args.x *ℤ c.args.y) 12 1000000 c.requires.0 inner

pub overflow_mul-result-2 : goal.overflow_mul-result-2
overflow_mul-result-2 c =
    let fv = c.ranges.v in let fx = c.ranges.x in let fy = c.ranges.y in
    let f1 : SFits w64 (c.args.x *ℤ c.args.y) = fits _ (omega (arith, inner c)) in
    simp to_z-of_z (fits _ (omega (arith, both c)))

pub returns : goal.returns
returns c =
    let fv = c.ranges.v in let fx = c.ranges.x in let fy = c.ranges.y in
    let f1 : SFits w64 (c.args.x *ℤ c.args.y) = fits _ (omega (arith, inner c)) in
    let f2 : SFits w64 (c.args.v *ℤ (c.args.x *ℤ c.args.y)) = fits _ (omega (arith, both c)) in
    record { value = simp to_z-of_z; size = simp to_z-of_z (both c) }
