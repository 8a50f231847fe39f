use Rattle.whole.proofs.Multiples.{lcm_is}
use Rattle.whole.proofs.laws.least_multiple_stands.Goals as goal

pub returns : goal.returns
returns c = lcm_is
