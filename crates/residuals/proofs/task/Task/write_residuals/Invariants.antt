use Rattle.std.proofs.Common.{◌≡◌, ℕ, ◌<◌, false, map}
use Rattle.whole.specs.Lists.{coord}
use Rattle.whole.specs.Tests.{any, above}
use Rattle.rules.specs.Values.{written}
use Rattle.rules.specs.Pulling.{residuals}
use Rattle.workings.specs.Shown.{shown}
use Rattle.residuals.specs.Rows.{chosen}
use Rattle.residuals.proofs.task.Task.write_residuals.Given as goal

abbrev pub invariant-loop-i : goal.invariant-loop-i
invariant-loop-i g l =
    let f = g.K.Kind.coords in
    let t = l.self in
    let w = shown t.workings.now in
    let all = residuals g.K.Kind.size w.count w.roles (chosen w.count t.relations.now (map f t.constants.now) t.rows.now) t.d (map f t.values.now) (map f t.wishes.now) in
    (map f l.found ≡ written l.i all (map f l.initial.found)) × ((k : ℕ) → k < l.i → any g.K.Kind.size (λ c. above 300000000 (coord all k c)) ≡ false)
