use Rattle.linear.proofs.Nearest.{nearest}
use Rattle.linear.proofs.nearest_stands.Goals as goal

pub returns : goal.returns
returns c = nearest
