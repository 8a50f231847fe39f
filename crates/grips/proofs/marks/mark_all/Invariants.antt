use Rattle.std.proofs.Common.{◌≡◌, ◌≤◌}
use Rattle.workings.specs.Chosen.{bare}
use Rattle.workings.specs.Shown.{shown}
use Rattle.rules.specs.Values.{written}
use Rattle.rules.specs.Gripping.{row_of}
use Rattle.grips.proofs.Marking.{marks}
use Rattle.grips.proofs.marks.mark_all.Given as goal

abbrev pub invariant-loop-relation : goal.invariant-loop-relation
invariant-loop-relation l =
    let w = shown l.workings in
    let old = l.initial.relations in
    let bs = bare w.count old in
    (l.relations ≡ written l.relation-index (marks w.count w.roles bs w.table old) old) × (l.row ≡ row_of w.count w.roles bs l.relation-index) × (l.row ≤ l.relation-index)
