use Rattle.rules.proofs.Bounds.{room_for_all}
use Rattle.rules.proofs.room_for_all_stands.Goals as goal

pub returns : goal.returns
returns c = room_for_all
