use Rattle.linear.proofs.Lowest.{lowest}
use Rattle.linear.proofs.lowest_stands.Goals as goal

pub returns : goal.returns
returns c = lowest
