use Rattle.law.proofs.Facts.{pivots, diagonal}
use Rattle.law.proofs.pivots_of_grips_stand.Goals as goal

pub returns : goal.returns
returns c = record { pivots = pivots; diagonal = diagonal }
