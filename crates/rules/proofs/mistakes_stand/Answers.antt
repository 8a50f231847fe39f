use Rattle.rules.proofs.Worked.{limit, rounded, denominator}
use Rattle.rules.proofs.mistakes_stand.Goals as goal

pub returns : goal.returns
returns c = record { limit = limit; rounded = rounded; denominator = denominator }
