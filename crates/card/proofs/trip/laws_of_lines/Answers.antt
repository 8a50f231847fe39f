use Rattle.card.proofs.Ways.{one_reading, one_spelling}
use Rattle.card.proofs.trip.laws_of_lines.Goals as goal

pub returns : goal.returns
returns g c = record { reading = one_reading g.V.Written.form g.met.V.Written.laws; spelling = one_spelling g.V.Written.form g.met.V.Written.laws }
