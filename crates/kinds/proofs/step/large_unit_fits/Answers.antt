use Rattle.std.proofs.Common.{◌≡◌, pos, ◌+ℤ◌, neg_ℤ, ap, ◌∙◌, arith, w64, SFits, of_z}
use borrow.Author.Differences.{ints}
use Rattle.std.proofs.lemmas.Int.{to_z-of_z}
use Rattle.kinds.proofs.Steps.{unit_is, neg_fits, minus-one-sum}
use Rattle.kinds.proofs.step.large_unit_fits.Goals as goal

pub returns-then-v-neminus9223372036854775808 : goal.returns-then-v-neminus9223372036854775808
returns-then-v-neminus9223372036854775808 c =
    let fu = c.ranges.u in
    let fv = c.ranges.v in
    let e = unit_is c.args.k c.requires (λ e. c.if-k-eq0.false (ap (of_z w64) e)) in
    let f : SFits w64 (neg_ℤ c.args.v) = neg_fits c.args.v c.ranges.v c.if-v-neminus9223372036854775808.true in
    let z : pos 0 +ℤ neg_ℤ c.args.v ≡ neg_ℤ c.args.v = omega (arith, ints) in
    simp (to_z-of_z, z) at c.sum_fits.ensures ∙ minus-one-sum c.args.u c.args.k c.args.v e f
