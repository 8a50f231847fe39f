use Rattle.linear.proofs.Spares.{spares}
use Rattle.linear.proofs.spares_stand.Goals as goal

pub returns : goal.returns
returns c = spares
