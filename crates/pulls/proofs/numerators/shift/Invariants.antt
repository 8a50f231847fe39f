use Rattle.std.proofs.Common.{◌≡◌, ℕ, ◌<◌, map, get_or, ◌*ℤ◌}
use Rattle.whole.specs.Lists.{at, coord}
use Rattle.whole.specs.Sums.{sum_below}
use Rattle.rules.specs.Sheets.{relation_at}
use Rattle.pulls.proofs.numerators.shift.Given as goal

abbrev pub invariant-loop-i : goal.invariant-loop-i
invariant-loop-i g l =
    let f = g.K.Kind.coords in
    (c : ℕ) → c < g.K.Kind.size → at (f l.sum) c ≡ sum_below (l.i) (λ k. at (relation_at l.task.relations.now (get_or l.task.rows.now k 0)).coefficients l.s *ℤ coord (map f l.multipliers) k c)
