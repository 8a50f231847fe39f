use Rattle.rules.proofs.Fit.{fitting}
use Rattle.rules.proofs.fitting_stands.Goals as goal

pub returns : goal.returns
returns c = fitting
