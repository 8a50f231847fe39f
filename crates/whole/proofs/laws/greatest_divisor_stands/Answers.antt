use Rattle.std.proofs.Common.{refl}
use Rattle.whole.proofs.Divisors.{gcd_is}
use Rattle.whole.proofs.laws.greatest_divisor_stands.Goals as goal

pub returns : goal.returns
returns c = (gcd_is, refl)
