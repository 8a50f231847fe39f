use Rattle.std.proofs.Common.{◌≡◌, false, length, vec_items}
use Rattle.words.specs.Reading.{left, starts}
use Rattle.heading.specs.Names.{texts}
use Rattle.heading.proofs.Rows.{Taken}
use Rattle.heading.proofs.read.read_names.Given as goal

abbrev pub invariant-loop-reader : goal.invariant-loop-reader
invariant-loop-reader l = Taken (left l.initial.reader) (left l.reader) (texts (vec_items l.names)) × (starts l.reader ≡ false)

abbrev pub decreases-loop-reader : goal.decreases-loop-reader
decreases-loop-reader l = length (left l.reader)
