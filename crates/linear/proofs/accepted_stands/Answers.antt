use Rattle.linear.proofs.Limits.{accepted}
use Rattle.linear.proofs.accepted_stands.Goals as goal

pub returns : goal.returns
returns c = accepted
