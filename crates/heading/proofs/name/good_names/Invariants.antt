use Rattle.heading.specs.Names.{texts}
use Rattle.heading.proofs.Rows.{Good}
use Rattle.heading.proofs.name.good_names.Given as goal

abbrev pub invariant-loop-i : goal.invariant-loop-i
invariant-loop-i l = Good (texts l.names) l.i
