use Rattle.std.proofs.Common.{◌≡◌, ℕ, ◌+◌, ◌*◌, map, length, ◌+ℤ◌, ◌*ℤ◌}
use Rattle.whole.specs.Lists.{at, coord}
use Rattle.whole.specs.Sums.{sum_below}
use Rattle.sheets.proofs.Combining.{Within}
use Rattle.sheets.proofs.Gaps.{term}
use Rattle.sheets.proofs.record.binding.gap.Given as goal

abbrev pub invariant-loop-k : goal.invariant-loop-k
invariant-loop-k g l =
    let f = g.K.Kind.coords in
    ((c : ℕ) → at (f l.sum) c ≡ at (f l.initial.sum) c +ℤ sum_below (length l.yielded) (λ p. at l.coefficients p *ℤ coord (map f l.values) p c)) × Within (term * (length l.yielded + 1)) (f l.sum)
