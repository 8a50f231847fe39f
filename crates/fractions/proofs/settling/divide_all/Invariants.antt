use Rattle.std.proofs.Common.{◌≡◌, map}
use Rattle.rules.specs.Values.{written}
use Rattle.fractions.specs.Settling.{all_divided}
use Rattle.fractions.proofs.settling.divide_all.Given as goal

abbrev pub invariant-loop-v : goal.invariant-loop-v
invariant-loop-v g l =
    let us = map g.K.Kind.coords l.initial.proposal in
    map g.K.Kind.coords l.proposal ≡ written l.v-index (all_divided g.K.Kind.size us l.g) us
