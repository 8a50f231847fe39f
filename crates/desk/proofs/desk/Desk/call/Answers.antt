use Rattle.std.proofs.Common.{sym, ap}
use Rattle.calls.specs.Shown.{call_of}
use Rattle.rules.specs.Runs as runs
use Rattle.steps.specs.declared.state.State.{State}
use Rattle.steps.specs.declared.state.State.TheVariants.{Free, Gripped, Proposed}
use Rattle.steps.specs.Steps.{use_in}
use Rattle.steps.proofs.Steps.{called}
use Rattle.desk.proofs.desk.Desk.call.Goals.{in-Free, in-Gripped, in-Proposed}
use Rattle.desk.proofs.desk.Desk.call.Goals as goal

pub returns : goal.returns
returns g c =
    let f = g.K.Kind.coords in
    let step : State → runs.Outcome = λ s. runs.step g.K.Kind.size (use_in f c.args.self.lists s) (call_of f c.args.call.now) in
    let was = c.in_ok-state.was in
    let after = step c.args.self.state in
    let lists = c.match-state.lists in
    let state = c.in_ok-state.state in
    let answer = c.in_ok-state.answer in
    elim c.match-state.branch [
      | in-Free w ↦ called f (step (Free w.in-Free.sheet)) after lists w.free_step-stepped.new.lists c.match-state.stepped w.free_step-stepped.result state answer was w.stepped-is w.lists-is (sym (ap step w.in-Free.is)) w.free_step-stepped.ensures
      | in-Gripped w ↦ called f (step (Gripped w.in-Gripped.held)) after lists w.gripped_step-stepped.new.lists c.match-state.stepped w.gripped_step-stepped.result state answer was w.stepped-is w.lists-is (sym (ap step w.in-Gripped.is)) w.gripped_step-stepped.ensures
      | in-Proposed w ↦ called f (step (Proposed w.in-Proposed.offer)) after lists w.proposed_step-stepped.new.lists c.match-state.stepped w.proposed_step-stepped.result state answer was w.stepped-is w.lists-is (sym (ap step w.in-Proposed.is)) w.proposed_step-stepped.ensures
    ]
