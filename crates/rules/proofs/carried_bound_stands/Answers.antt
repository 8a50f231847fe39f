use Rattle.rules.proofs.Bounds.{carried-within}
use Rattle.rules.proofs.carried_bound_stands.Goals as goal

pub returns : goal.returns
returns c = carried-within
