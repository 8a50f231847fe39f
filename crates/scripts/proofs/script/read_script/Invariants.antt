use Rattle.std.proofs.Common.{length, map, vec_items}
use Rattle.words.specs.Lines.{lines, uncut}
use Rattle.calls.specs.Shown.{call_of}
use Rattle.scripts.proofs.Scripts.{Read}
use Rattle.scripts.proofs.script.read_script.Given as goal

-- the lines that are still to be read
abbrev pub decreases-loop-line : goal.decreases-loop-line
decreases-loop-line g l = length (lines (uncut l.rest))

abbrev pub invariant-loop-line : goal.invariant-loop-line
invariant-loop-line g l =
    Read g.V.Written.form g.V.Kind.coords l.count (lines (uncut l.initial.rest)) (lines (uncut l.rest)) (map (call_of g.V.Kind.coords) (vec_items l.calls)) (vec_items l.made)
