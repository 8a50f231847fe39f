use Rattle.law.proofs.Pulled.{pulls_rightly}
use Rattle.law.proofs.pulls_of_grips_stand.Goals as goal

pub returns : goal.returns
returns c = pulls_rightly
