use Rattle.linear.proofs.Meaning.{diagonal}
use Rattle.linear.proofs.diagonal_stands.Goals as goal

pub returns : goal.returns
returns c = diagonal
