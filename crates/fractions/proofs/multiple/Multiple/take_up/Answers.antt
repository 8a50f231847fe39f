use Rattle.std.proofs.Common.{arith, rules}
use Rattle.whole.proofs.Multiples.{lcm-above}
use Rattle.fractions.proofs.multiple.Multiple.take_up.Goals as goal

pub invariant_of-result-clause-some : goal.invariant_of-result-clause-some
invariant_of-result-clause-some c =
    let above = lcm-above c.args.self.l c.args.p (omega (arith, c.args.self.some)) (omega (arith, c.if-p-eq0.false)) in
    search rules
