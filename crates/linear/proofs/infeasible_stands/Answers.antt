use Rattle.linear.proofs.Solving.{infeasible}
use Rattle.linear.proofs.infeasible_stands.Goals as goal

pub returns : goal.returns
returns c = infeasible
