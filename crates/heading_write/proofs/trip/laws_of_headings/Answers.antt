use Rattle.heading_write.proofs.Heads.{one_reading, one_spelling}
use Rattle.heading_write.proofs.trip.laws_of_headings.Goals as goal

pub returns : goal.returns
returns c = record { reading = one_reading; spelling = one_spelling }
