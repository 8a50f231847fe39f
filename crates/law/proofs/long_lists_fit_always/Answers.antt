use Rattle.law.proofs.Plenty.{fits_always}
use Rattle.law.proofs.long_lists_fit_always.Goals as goal

pub returns : goal.returns
returns c = fits_always
