use Rattle.std.proofs.Common.{◌∷◌, vec_items, sym, ap, ◌∙◌}
use Rattle.runner.proofs.Answering.{next_given, none_left, not_asked, took, ended, apart}
use Rattle.runner.proofs.playing.put_answers.Goals as goal
use Rattle.runner.proofs.playing.put_answers.Goals.{then-made, else-made, in-Some+in_ok-put_answer-in-Some, in-None+in_ok-put_answer-in-None}

pub loop-made-preserved : goal.loop-made-preserved
loop-made-preserved g c =
    let coords = g.K.Kind.coords in
    let marks = c.args.made.now in
    let i = c.loop-made.made-index in
    let inside = c.loop-made-test.true in
    let left = c.loop-made.answers.rest.now in
    let rest = c.if-made.answers.rest.now in
    let o₁ = vec_items c.loop-made.out in
    let o₂ = vec_items c.match-this.out in
    let so = c.loop-made.invariant in
    elim c.match-this.branch [
      | in-Some+in_ok-put_answer-in-Some w ↦ elim c.if-made.branch [
        | then-made v ↦
            let step = took c.loop-made.answers v.next.new.self v.next.result w.in-Some.answer (sym v.t-18-is ∙ w.in-Some.is) v.next.ensures.steps in
            next_given coords marks i inside left rest _ o₁ o₂ so w.in-Some.answer.now v.if-made.true (step ∙ ap (λ a. w.in-Some.answer.now ∷ a.rest.now) (sym v.answers-is)) (ap vec_items w.out-is ∙ w.in_ok-put_answer-in-Some.ensures)
        | else-made v ↦ absurd (apart _ w.in-Some.answer v.t-18-is w.in-Some.is)
      ]
      | in-None+in_ok-put_answer-in-None w ↦ elim c.if-made.branch [
        | then-made v ↦
            let step = ended c.loop-made.answers v.next.new.self v.next.result (sym v.t-18-is ∙ w.in-None.is) v.next.ensures.steps in
            none_left coords marks i inside left rest _ o₁ o₂ so v.if-made.true step.0 (ap (λ a. a.rest.now) (v.answers-is ∙ step.1)) (ap vec_items w.out-is ∙ w.in_ok-put_answer-in-None.ensures)
        | else-made v ↦ not_asked coords marks i inside left rest _ o₁ o₂ so v.if-made.false (ap (λ a. a.rest.now) v.answers-is) (ap vec_items w.out-is ∙ w.in_ok-put_answer-in-None.ensures)
      ]
    ]
