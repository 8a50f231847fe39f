use Rattle.rules.proofs.Bounds.{denominator_within, numerator-within}
use Rattle.rules.proofs.numerator_bounds_stand.Goals as goal

pub returns : goal.returns
returns c = record { denominator = denominator_within; numerator = numerator-within }
