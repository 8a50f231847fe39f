use Rattle.std.proofs.Common.{◌≡◌, take}
use Rattle.whole.specs.Gcd.{gcd_all}
use Rattle.whole.proofs.euclid.common_divisor_all.Given as goal

abbrev pub invariant-loop-x : goal.invariant-loop-x
invariant-loop-x l = l.g ≡ gcd_all (take l.x-index l.xs)
