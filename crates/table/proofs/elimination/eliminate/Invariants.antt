use Rattle.std.proofs.Common.{◌≡◌, Ok}
use Rattle.linear.specs.Elimination.{eliminated}
use Rattle.table.specs.Tables.{grid, rows_grid}
use Rattle.table.proofs.Turns.{Turning}
use Rattle.table.proofs.elimination.eliminate.Given as goal

abbrev pub invariant-loop-i : goal.invariant-loop-i
invariant-loop-i l = Turning l.m l.k (grid l.m (record { rows = l.initial.rows })) l.i (record { rows = l.rows })

abbrev pub invariant-loop-k : goal.invariant-loop-k
invariant-loop-k l = eliminated l.m l.k (rows_grid l.initial.rows) ≡ Ok (grid l.m (record { rows = l.rows }))
