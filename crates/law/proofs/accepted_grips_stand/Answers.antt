use Rattle.law.proofs.Facts.{accepted-grip, spare-exactly}
use Rattle.law.proofs.accepted_grips_stand.Goals as goal

pub returns : goal.returns
returns c = record { workings = accepted-grip; spare = spare-exactly }
