-- Values that a line's first word names.
use Rattle.std.specs.Prelude.{◌≡◌, ℕ, true, false, List, ◌∷◌, Some, None, Option}
use Rattle.words.specs.declared.word.Reader.{Reader}
use Rattle.words.specs.Lines.{Lacks, Lined}
use Rattle.words.specs.Reading.{left, starts}
use Rattle.words.specs.Sorts.{sort_of, verb}
use Rattle.words.specs.Words.{pieces}

-- the bytes are the word that names the value
abbrev pub NamedBy : {X : Type 0} → (X → List ℕ) → List ℕ → X → Type 0
NamedBy word_of w x = w ≡ word_of x

-- a word names one value at most, is a verb where it stands first on a line, and has no space in it
pub record Keywords {X : Type 0} (word_of : X → List ℕ) : Type 0 where
  pub once : (x y : X) → word_of x ≡ word_of y → x ≡ y
  pub sorted : (x : X) → sort_of true (word_of x) ≡ verb
  pub spaceless : (x : X) → Lacks 32 (word_of x)

-- the first word of a line names the value and the words behind it are left, or the bytes are no line whose first word names a value
abbrev pub KeywordRead : {X : Type 0} → (X → List ℕ) → List ℕ → Option (X × Reader) → Type 0
KeywordRead word_of line (Some p) = (text : List ℕ) × Lined line text × (pieces 32 text ≡ word_of p.0 ∷ left p.1) × (starts p.1 ≡ false)
KeywordRead word_of line None = (text : List ℕ) (x : _) (rest : List (List ℕ)) → Lined line text → pieces 32 text ≡ word_of x ∷ rest → ⊥
