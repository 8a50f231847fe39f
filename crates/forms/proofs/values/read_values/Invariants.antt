use Rattle.std.proofs.Common.{vec_items}
use Rattle.words.specs.Reading.{left}
use Rattle.forms.specs.Rows.{Row}
use Rattle.forms.proofs.values.read_values.Given as goal

abbrev pub invariant-loop-i : goal.invariant-loop-i
invariant-loop-i g l = Row g.V.Written.form l.i (left l.initial.reader) (left l.reader) (vec_items l.values)
