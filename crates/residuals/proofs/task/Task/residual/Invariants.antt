use Rattle.std.proofs.Common.{◌≡◌, ℕ, ◌<◌, [], map, get_or}
use Rattle.whole.specs.Lists.{at}
use Rattle.rules.specs.Sheets.{relation_at}
use Rattle.workings.specs.Shown.{shown}
use Rattle.residuals.specs.Steps.{residual_at}
use Rattle.residuals.proofs.task.Task.residual.Given as goal

abbrev pub invariant-loop-s : goal.invariant-loop-s
invariant-loop-s g l =
    let f = g.K.Kind.coords in
    let t = l.self in
    let row = get_or t.rows.now l.fn.i 0 in
    (c : ℕ) → c < g.K.Kind.size → at (f l.sum) c ≡ residual_at l.s (shown t.workings.now).roles t.d (map f t.values.now) (map f t.wishes.now) (relation_at t.relations.now row).coefficients (get_or (map f t.constants.now) row []) c
