use Rattle.linear.proofs.Limits.{room}
use Rattle.linear.proofs.room_stands.Goals as goal

pub returns : goal.returns
returns c = room
