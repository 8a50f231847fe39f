use Rattle.linear.proofs.Pivots.{pivots}
use Rattle.linear.proofs.pivots_stand.Goals as goal

pub returns : goal.returns
returns c = pivots
