use Rattle.std.proofs.Common.{◌≡◌, ◌++◌, length, drop, replicate, pos}
use Rattle.whole.specs.Lists.{tab, at, coord}
use Rattle.linear.specs.Gram.{gram}
use Rattle.table.proofs.row.Row.begin.Given as goal

abbrev pub invariant-loop-j : goal.invariant-loop-j
invariant-loop-j l = l.self.cells ≡ tab l.j (gram (length l.shares) (at l.shares) (coord l.rows) l.i) ++ drop l.j (replicate 24 (pos 0))
