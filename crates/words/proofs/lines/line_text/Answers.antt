use Rattle.std.proofs.Common.{◌∷◌, [], arith}
use Rattle.std.proofs.lemmas.Bool.Decides.{Decides-eqb}
use Rattle.std.proofs.lemmas.Slice.Eq.{strip_suffix_is}
use Rattle.words.proofs.Cuts.{text_told}
use Rattle.words.proofs.lines.line_text.Goals as goal

pub returns : goal.returns
returns c = text_told c.args.line.now _ (omega arith) (strip_suffix_is Decides-eqb c.args.line.now (10 ∷ []) c.strip_suffix.result c.strip_suffix.ensures.cases)
