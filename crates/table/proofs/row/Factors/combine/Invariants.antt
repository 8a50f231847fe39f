use Rattle.std.proofs.Common.{◌≡◌, ◌++◌, drop}
use Rattle.table.specs.Rows.{mixed}
use Rattle.table.proofs.row.Factors.combine.Given as goal

abbrev pub invariant-loop-j : goal.invariant-loop-j
invariant-loop-j l = l.cells ≡ mixed l.j l.self.p l.self.q l.initial.cells l.pivot ++ drop l.j l.initial.cells
