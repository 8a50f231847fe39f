use Rattle.linear.proofs.Meaning.{finished}
use Rattle.linear.proofs.meaning_stands.Goals as goal

pub returns : goal.returns
returns c = finished
