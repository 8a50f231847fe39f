use Rattle.rules.proofs.Bounds.{holding-within, residual-within}
use Rattle.rules.proofs.residual_bounds_stand.Goals as goal

pub returns : goal.returns
returns c = record { holding = holding-within; residual = residual-within }
