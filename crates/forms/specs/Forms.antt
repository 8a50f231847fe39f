-- Values that one word writes.
use Rattle.std.specs.Prelude.{◌≡◌, ℕ, ◌<◌, Bool, List, ◌++◌, length, Ok, Err, Result, slice_index}
use Rattle.words.specs.declared.fault.Fault.{Fault}
use Rattle.words.specs.declared.word.Word.{Word}
use Rattle.words.specs.Faults.{Refuses}
use Rattle.words.specs.Sorts.{sort, sort_of, text_of}

-- each byte is above the space, so that no word holds a space or a line's end
abbrev pub Visible : List ℕ → Type 0
Visible w = (k : ℕ) → k < length w → 32 < slice_index w k

-- what makes reading and writing each other's inverse: a word has one value at most, a value one word at most, and words are visible
pub record Forms {V : Type 0} (form : List ℕ → V → Type 0) : Type 0 where
  pub one_value : (w : List ℕ) (u v : V) → form w u → form w v → u ≡ v
  pub one_word : (w x : List ℕ) (v : V) → form w v → form x v → w ≡ x
  pub visible : (w : List ℕ) (v : V) → form w v → Visible w

-- the word is of the sort that its bytes have, in the first place of a line or in another, and they write v
pub record Says {V : Type 0} (form : List ℕ → V → Type 0) (w : Word) (v : V) : Type 0 where
  pub first : Bool
  pub sorted : sort w ≡ sort_of first (text_of w)
  pub says : form (text_of w) v

-- the word of v was appended, or v has none
abbrev pub PutWord : {V : Type 0} → (List ℕ → V → Type 0) → V → List ℕ → List ℕ → Result (Unit {0}) Fault → Type 0
PutWord form v before after (Ok x) = (w : List ℕ) × (after ≡ before ++ w) × form w v
PutWord form v before after (Err e) = Refuses e ((w : List ℕ) → form w v → ⊥)
