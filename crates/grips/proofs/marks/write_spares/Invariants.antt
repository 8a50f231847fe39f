use Rattle.std.proofs.Common.{◌≡◌, length}
use Rattle.rules.specs.Values.{written}
use Rattle.grips.specs.Spares.{spare_marks}
use Rattle.grips.proofs.marks.write_spares.Given as goal

abbrev pub invariant-loop-i : goal.invariant-loop-i
invariant-loop-i l = (l.k ≡ length (spare_marks l.relations l.i)) × (l.spare ≡ written l.k (spare_marks l.relations l.i) l.initial.spare)
