use Rattle.whole.proofs.Divisors.{gcd_all_is}
use Rattle.whole.proofs.laws.common_divisor_of_all_stands.Goals as goal

pub returns : goal.returns
returns c = gcd_all_is
