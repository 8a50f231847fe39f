use Rattle.std.proofs.Common.{◌≡◌, ℕ, ◌+◌, ◌-◌, ◌<◌, cond, ltb, length}
use Rattle.whole.specs.Lists.{at, coord}
use Rattle.linear.specs.Elimination.{unit}
use Rattle.linear.specs.Gram.{gram}
use Rattle.table.specs.Tables.{cell}
use Rattle.table.proofs.start.write_first.Given as goal

abbrev pub invariant-loop-i : goal.invariant-loop-i
invariant-loop-i l =
    let m = length l.rows in
    (a b : ℕ) → a < l.i → b < m + m → cell (record { rows = l.all }) a b ≡ cond (ltb b m) (gram (length l.shares) (at l.shares) (coord l.rows) a b) (unit a (b - m))
