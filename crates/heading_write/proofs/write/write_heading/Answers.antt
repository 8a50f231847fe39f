use Rattle.std.proofs.Common.{[], ◌∷◌, ◌++◌, ap, ◌∙◌, subst, rules}
use Rattle.words.specs.Words.{joined_by}
use Rattle.heading.specs.Names.{Names, texts}
use Rattle.heading.specs.Headings.{kind_word, names_of}
use Rattle.heading_write.proofs.Heads.{written}
use Rattle.heading_write.proofs.write.write_heading.Goals as goal

pub returns : goal.returns
returns c =
    let kind = c.args.heading.now.kind in
    let same = ap texts c.as_slice-names.ensures.value in
    let good : Names (texts c.as_slice-names.result.now) = search rules in
    written kind (names_of c.args.heading.now) c.as_slice.result.now c.args.out.now c.place_line.new.out c.place_line.result
    (subst Names same good) (c.as_slice.ensures.value ∙ c.in_ok-text.ensures ∙ ap (λ ws. joined_by 32 (kind_word kind ∷ ws) ++ 10 ∷ []) same) c.place_line.ensures
