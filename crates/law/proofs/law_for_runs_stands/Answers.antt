use Rattle.law.proofs.Runs.{law}
use Rattle.law.proofs.Ran.{ran_from_opening}
use Rattle.law.proofs.law_for_runs_stands.Goals as goal

pub returns : goal.returns
returns c = record { law = law; ran = ran_from_opening }
