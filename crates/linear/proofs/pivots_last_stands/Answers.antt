use Rattle.linear.proofs.Pivots.{pivots_last}
use Rattle.linear.proofs.pivots_last_stands.Goals as goal

pub returns : goal.returns
returns c = pivots_last
