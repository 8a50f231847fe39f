use Rattle.std.proofs.Common.{◌≡◌}
use Rattle.whole.specs.Gcd.{gcd}
use Rattle.whole.proofs.euclid.common_divisor.Given as goal

-- The remainders keep the divisor.
abbrev pub invariant-loop-y : goal.invariant-loop-y
invariant-loop-y l = gcd l.x l.y ≡ gcd l.a l.b

abbrev pub decreases-loop-y : goal.decreases-loop-y
decreases-loop-y l = l.y
