use Rattle.std.proofs.Common.{◌≡◌}
use Rattle.rules.specs.Values.{written}
use Rattle.fractions.specs.Steps.{quotients}
use Rattle.fractions.proofs.steps.divided.Given as goal

abbrev pub invariant-loop-k : goal.invariant-loop-k
invariant-loop-k g l =
    let f = g.K.Kind.coords in
    f l.quotient ≡ written l.k (quotients g.K.Kind.size (f l.v) l.g) (f l.v)
