use Rattle.words.proofs.Cards.{cuts}
use Rattle.words.proofs.lines.laws_of_cards.Goals as goal

pub returns : goal.returns
returns c = cuts
