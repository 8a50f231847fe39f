use Rattle.law.proofs.Series.{series_made, small_made}
use Rattle.law.proofs.histories_are_made.Goals as goal

pub returns : goal.returns
returns c = record { series = series_made; small = small_made }
