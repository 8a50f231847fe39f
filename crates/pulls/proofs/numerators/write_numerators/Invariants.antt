use Rattle.std.proofs.Common.{◌≡◌, map}
use Rattle.rules.specs.Values.{written}
use Rattle.workings.specs.Shown.{shown}
use Rattle.pulls.specs.Finish.{numerators_by}
use Rattle.pulls.proofs.numerators.write_numerators.Given as goal

abbrev pub invariant-loop-s : goal.invariant-loop-s
invariant-loop-s g l =
    let f = g.K.Kind.coords in
    let t = l.task in
    let w = shown t.workings.now in
    map f l.proposal ≡ written l.s (numerators_by g.K.Kind.size w.count w.roles w.shares l.fn.multiple.l t.d (map f t.values.now) (map f t.wishes.now) t.relations.now t.rows.now (map f l.multipliers)) (map f l.initial.proposal)
