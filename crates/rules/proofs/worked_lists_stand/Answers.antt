use Rattle.rules.proofs.Worked.{places-beyond, refused_first}
use Rattle.rules.proofs.worked_lists_stand.Goals as goal

pub returns : goal.returns
returns c = record { beyond = places-beyond; first = refused_first }
