use Rattle.std.proofs.Common.{◌≡◌, ℕ, ◌<◌, map, length}
use Rattle.whole.specs.Lists.{at}
use Rattle.residuals.specs.Steps.{carried_at}
use Rattle.residuals.proofs.residual.carried.Given as goal

abbrev pub invariant-loop-number : goal.invariant-loop-number
invariant-loop-number g l =
    let f = g.K.Kind.coords in
    (c : ℕ) → c < g.K.Kind.size → at (f l.sum) c ≡ carried_at (length l.yielded) l.row (map f l.residuals) c
