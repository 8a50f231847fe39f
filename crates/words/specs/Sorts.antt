-- The sorts of words.
use Rattle.std.specs.Prelude.{◌≡◌, ℕ, Bool, cond, ◌||◌, List, [], ◌∷◌, ◌==◌}
use Rattle.std.specs.Int.{is_in_range}
use Rattle.words.specs.declared.word.Word.{Word}
use Rattle.words.specs.declared.word.Word.TheVariants.{Verb, Name, Number, Cell}

pub data Sort : Type 0 where
  verb : Sort
  name : Sort
  number : Sort
  cell : Sort

abbrev pub sort : Word → Sort
sort (Verb w) = verb
sort (Name w) = name
sort (Number w) = number
sort (Cell w) = cell

-- the bytes that a word is
abbrev pub text_of : Word → List ℕ
text_of (Verb w) = w.now
text_of (Name w) = w.now
text_of (Number w) = w.now
text_of (Cell w) = w.now

-- a word by its first byte: a to z begin a verb where the word is the line's first, and else a name; a minus and 0 to 9 begin a number
abbrev pub sort_of : Bool → List ℕ → Sort
sort_of first [] = cell
sort_of first (b ∷ bs) = cond (is_in_range 97 122 b) (cond first verb name) (cond (b == 45 || is_in_range 48 57 b) number cell)

-- the word stands first on its line and is the one for x
pub record Calls {X : Type 0} (word_of : X → List ℕ) (w : Word) (x : X) : Type 0 where
  pub sorted : sort w ≡ verb
  pub says : text_of w ≡ word_of x
