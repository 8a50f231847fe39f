use Rattle.std.proofs.Common.{◌≡◌, ◌*◌, ◌≤◌, ◌*ℤ◌, nat_abs}
use Rattle.whole.specs.Lists.{at}
use Rattle.whole.specs.Sums.{sum_below}
use Rattle.table.proofs.start.weighted_sum.Given as goal

abbrev pub invariant-loop-s : goal.invariant-loop-s
invariant-loop-s l = (l.sum ≡ sum_below l.s (λ s. at l.shares s *ℤ (at l.xs s *ℤ at l.ys s))) × (nat_abs l.sum ≤ 12000000 * l.s)
