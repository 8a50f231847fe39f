-- A whole heading: its bytes against its words.
use Rattle.std.proofs.Common.{◌≡◌, ℕ, suc, ◌<◌, List, [], ◌∷◌, ◌++◌, length, get_or, None, sym, ap, ◌∙◌, subst, ⊎_elim, arith}
use Rattle.std.specs.List.{AllByRecursion as All}
use Rattle.std.proofs.lemmas.List.{same_from_push}
use Rattle.words.specs.Lines.{Lacks, Lined}
use Rattle.words.specs.Words.{joined_by, pieces}
use Rattle.words.proofs.Cuts.{joined-pieces, pieces-joined}
use Rattle.forms.specs.Keywords.{KeywordRead}
use Rattle.heading.specs.declared.kind.KindWord.{KindWord}
use Rattle.heading.specs.Names.{Named, Names}
use Rattle.heading.specs.Headings.{kind_word, kind_laws, Headed}

named_lacks : (w : List ℕ) → Named w → Lacks 32 w
named_lacks w n k l e = ⊎_elim (λ b. omega (arith, b.0)) (λ b. omega (arith, b.0)) (n.bytes k l)

names_lack : (ws : List (List ℕ)) → ((i : ℕ) → i < length ws → Named (get_or ws i [])) → All (Lacks 32) ws
names_lack [] h = tt
names_lack (w ∷ ws) h = (named_lacks w (h 0 (omega arith)), names_lack ws (λ i l. h (suc i) (omega arith)))

-- the words of a heading are the pieces of its bytes
pub headed_words : (text : List ℕ) (kind : KindWord) (names : List (List ℕ)) → Headed (text ++ 10 ∷ []) kind names → pieces 32 text ≡ kind_word kind ∷ names
headed_words text kind names p =
    ap (pieces 32) (same_from_push text _ 10 10 p.joined).0 ∙ pieces-joined 32 (kind_word kind) names (kind_laws.spaceless kind) (names_lack names p.good.named)

module _ (bs : List ℕ) where
  -- bytes that are no line whose first word names a kind are no heading
  pub head_none : KeywordRead kind_word bs None → (kind : KindWord) (names : List (List ℕ)) → Headed bs kind names → ⊥
  head_none none kind names p =
      let text = joined_by 32 (kind_word kind ∷ names) in
      none text kind names (record { whole = p.joined; short = p.short }) (headed_words text kind names (subst (λ b. Headed b kind names) p.joined p))

  module _ (k : KindWord) (text : List ℕ) (after : List (List ℕ)) (line : Lined bs text) (words : pieces 32 text ≡ kind_word k ∷ after) where
    pub head_names : (Names after → ⊥) → (kind : KindWord) (names : List (List ℕ)) → Headed bs kind names → ⊥
    head_names none kind names p =
        let same = sym (headed_words text kind names (subst (λ b. Headed b kind names) line.whole p)) ∙ words in
        let rest : names ≡ after = cc in
        none (subst Names rest p.good)

    pub head_done : (names : List (List ℕ)) → names ≡ after → Names after → Headed bs k names
    head_done names e good = record {
      good = subst Names (sym e) good;
      joined = line.whole ∙ ap (λ t. t ++ 10 ∷ []) (sym (joined-pieces 32 text) ∙ ap (joined_by 32) (words ∙ ap (λ l. kind_word k ∷ l) (sym e)));
      short = line.short;
    }
