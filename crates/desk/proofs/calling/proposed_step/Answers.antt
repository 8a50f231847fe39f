use Rattle.std.proofs.Common.{List, map, box_value, sym, ap, ◌∙◌, subst}
use Rattle.calls.specs.Shown.{call_of}
use Rattle.rules.specs.Runs as runs
use Rattle.workings.specs.Shown.{shown}
use Rattle.grips.specs.Shown.{gripped_sheet}
use Rattle.steps.specs.Steps.{in_use, SteppedIn}
use Rattle.desk.proofs.calling.proposed_step.Goals as goal

pub returns-in-Pull : goal.returns-in-Pull
returns-in-Pull g c =
    let f = g.K.Kind.coords in
    let u = in_use f c.args.lists.now (gripped_sheet c.args.offer.held.grip) (runs.proposing (shown (box_value c.args.offer.held.workings)) c.args.offer.denominator) in
    subst (λ (k : runs.Call). SteppedIn f (runs.step g.K.Kind.size u k) c.pull_step.new.lists c.pull_step.result)
    (ap (λ (ws : List g.row.K.Denot). runs.pull (map f ws)) c.deref.ensures.value ∙ sym (ap (call_of f) c.in-Pull.is)) c.pull_step.ensures
