use Rattle.std.proofs.Common.{◌<◌, List, map, length, ℤ, sym, ap, ◌∙◌, arith, below_more}
use Rattle.std.proofs.lemmas.List.{length-map, set-get_or}
use Rattle.whole.specs.Lists.{at}
use Rattle.whole.specs.Tests.{any, above}
use Rattle.rules.specs.Pulling.{residuals}
use Rattle.sheets.proofs.Writing.{written_more}
use Rattle.workings.specs.Shown.{shown}
use Rattle.residuals.specs.Rows.{chosen}
use Rattle.sheets.proofs.Writing.{written_all}
use Rattle.residuals.proofs.Written.{gap_stops, gaps_end}
use Rattle.residuals.proofs.Chosen.{residual_rows, residual_row}
use Rattle.residuals.proofs.task.Task.write_residuals.Goals as goal

pub returns-then-value_above : goal.returns-then-value_above
returns-then-value_above g c =
    let f = g.K.Kind.coords in
    let size = g.K.Kind.size in
    let i = c.loop-i.i in
    let t = c.args.self.now in
    let w = shown t.workings.now in
    let rows = t.rows.now in
    let qs = map f t.constants.now in
    let vs = map f t.values.now in
    let ws = map f t.wishes.now in
    let all = residuals size w.count w.roles (chosen w.count t.relations.now qs rows) t.d vs ws in
    let below : i < length rows = omega (arith, c.loop-i-test.true, c.requires) in
    let this = c.residual-c.ensures ∙ sym (residual_row w.count t.relations.now qs rows size w.roles t.d vs ws i below) in
    gap_stops size (length rows) all (map f c.args.found.now) (residual_rows w.count t.relations.now qs rows size w.roles t.d vs ws) (length-map c.args.found.now f ∙ c.requires) i below c.loop-i.invariant.1
    (ap (λ (u : List ℤ). any size (λ x. above 300000000 (at u x))) (sym this) ∙ sym c.if-value_above.ensures)
    _ (ap (map f) (set-get_or c.loop-i.found i c.index-found-i.result) ∙ c.loop-i.invariant.0)

pub loop-i-preserved : goal.loop-i-preserved
loop-i-preserved g c =
    let f = g.K.Kind.coords in
    let size = g.K.Kind.size in
    let i = c.loop-i.i in
    let t = c.args.self.now in
    let w = shown t.workings.now in
    let rows = t.rows.now in
    let qs = map f t.constants.now in
    let vs = map f t.values.now in
    let ws = map f t.wishes.now in
    let all = residuals size w.count w.roles (chosen w.count t.relations.now qs rows) t.d vs ws in
    let many = residual_rows w.count t.relations.now qs rows size w.roles t.d vs ws in
    let below : i < length rows = omega (arith, c.loop-i-test.true, c.requires) in
    let this = c.residual-c.ensures ∙ sym (residual_row w.count t.relations.now qs rows size w.roles t.d vs ws i below) in (
      written_more f c.args.found.now c.loop-i.found all i c.residual-c.result (omega (arith, below)) c.loop-i-test.true this c.loop-i.invariant.0,
      below_more _ _ c.loop-i.invariant.1 (ap (λ (u : List ℤ). any size (λ x. above 300000000 (at u x))) (sym this) ∙ sym c.if-value_above.ensures),
    )

pub returns : goal.returns
returns g c =
    let f = g.K.Kind.coords in
    let size = g.K.Kind.size in
    let t = c.args.self.now in
    let w = shown t.workings.now in
    let rows = t.rows.now in
    let qs = map f t.constants.now in
    let vs = map f t.values.now in
    let ws = map f t.wishes.now in
    let all = residuals size w.count w.roles (chosen w.count t.relations.now qs rows) t.d vs ws in
    let many = residual_rows w.count t.relations.now qs rows size w.roles t.d vs ws in
    let long = length-map c.args.found.now f in
    let end = c.loop-i-test.false in
    gaps_end size (length rows) all (map f c.args.found.now) (residual_rows w.count t.relations.now qs rows size w.roles t.d vs ws) (long ∙ c.requires) (λ k h. c.loop-i.invariant.1 k (omega (arith, c.requires)))
    _ (c.loop-i.invariant.0 ∙ written_all c.loop-i.i all (map f c.args.found.now) (omega (arith, c.requires, residual_rows w.count t.relations.now qs rows size w.roles t.d vs ws)) (omega (arith, c.requires)))
