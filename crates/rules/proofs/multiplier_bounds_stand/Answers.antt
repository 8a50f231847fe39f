use Rattle.rules.proofs.Bounds.{multiple-within, multiplier_within}
use Rattle.rules.proofs.multiplier_bounds_stand.Goals as goal

pub returns : goal.returns
returns c = record { multiple = multiple-within; multiplier = multiplier_within }
