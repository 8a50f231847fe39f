-- A line by its first word.
use Rattle.std.proofs.Common.{◌≡◌, ℕ, List, [], ◌∷◌, false, Some, None, sym, refl, ap, ◌∙◌}
use Rattle.std.proofs.lemmas.List.{same_from_push}
use Rattle.words.specs.declared.word.Reader.{Reader}
use Rattle.words.specs.Lines.{Lined}
use Rattle.words.specs.Reading.{left, starts}
use Rattle.words.specs.Words.{pieces}
use Rattle.forms.specs.Keywords.{KeywordRead, NamedBy}
use Rattle.forms.specs.Rows.{OneRead}

module _ {X : Type 0} (word_of : X → List ℕ) (line text : List ℕ) (here : Lined line text) (start : Reader) (words : left start ≡ pieces 32 text) where
  -- a line has one text
  same_words : (t : List ℕ) → Lined line t → left start ≡ pieces 32 t
  same_words t l = words ∙ ap (pieces 32) (same_from_push text t 10 10 (sym here.whole ∙ l.whole)).0

  pub no_words : left start ≡ [] → KeywordRead word_of line None
  no_words e t x rest l p = let all : [] ≡ word_of x ∷ rest = sym e ∙ same_words t l ∙ p in cc

  pub no_value : (after : List (List ℕ)) → OneRead (NamedBy word_of) (left start) after None → KeywordRead word_of line None
  no_value after o t x rest l p = o (word_of x) rest x (same_words t l ∙ p) refl

  pub found : (next : Reader) (x : X) → OneRead (NamedBy word_of) (left start) (left next) (Some x) → starts next ≡ false → KeywordRead word_of line (Some (x, next))
  found next x o later = (text, here, sym words ∙ o.1 ∙ ap (λ w. w ∷ left next) o.2, later)
