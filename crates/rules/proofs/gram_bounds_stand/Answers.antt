use Rattle.rules.proofs.Bounds.{shares-within, gram-within}
use Rattle.rules.proofs.gram_bounds_stand.Goals as goal

pub returns : goal.returns
returns c = record { shares = shares-within; gram = gram-within }
