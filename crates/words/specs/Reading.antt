-- What reading a word, or looking ahead at one, tells.
use Rattle.std.specs.Prelude.{◌≡◌, ℕ, Bool, false, List, [], ◌∷◌, Some, None, Option}
use Rattle.std.specs.Borrow.{Bor}
use Rattle.words.specs.declared.word.Place.{Place}
use Rattle.words.specs.declared.word.Word.{Word}
use Rattle.words.specs.declared.word.Reader.{Reader}
use Rattle.words.specs.Words.{pieces}
use Rattle.words.specs.Sorts.{sort, sort_of, text_of}

-- the words of a text with one space between each two, or none
abbrev pub words_of : Option (Bor (List ℕ)) → List (List ℕ)
words_of None = []
words_of (Some text) = pieces 32 text.now

-- the words that are still to be read
abbrev pub pending : Place → List (List ℕ)
pending p = words_of p.rest

-- the bytes of the first of them were read, or there were none
abbrev pub Took : Place → Place → Option (Bor (List ℕ)) → Type 0
Took before after None = (pending before ≡ []) × (after ≡ before)
Took before after (Some w) = (pending before ≡ w.now ∷ pending after) × (after.first ≡ false)

-- the first of them was read, sorted by its first byte and its place on the line
abbrev pub TookWord : Place → Place → Option Word → Type 0
TookWord before after None = (pending before ≡ []) × (after ≡ before)
TookWord before after (Some w) = (pending before ≡ text_of w ∷ pending after) × (after.first ≡ false) × (sort w ≡ sort_of before.first (text_of w))

-- the words that a reader has still to read
abbrev pub left : Reader → List (List ℕ)
left r = pending r.place

-- whether the next word is the line's first
abbrev pub starts : Reader → Bool
starts r = r.place.first

-- the next word was read, or there was none
abbrev pub Next : Reader → Reader → Option Word → Type 0
Next before after None = (left before ≡ []) × (after ≡ before)
Next before after (Some w) = (left before ≡ text_of w ∷ left after) × (starts after ≡ false) × (sort w ≡ sort_of (starts before) (text_of w))

-- the next word was told
abbrev pub First : Reader → Option Word → Type 0
First r None = left r ≡ []
First r (Some w) = (rest : List (List ℕ)) × (left r ≡ text_of w ∷ rest) × (sort w ≡ sort_of (starts r) (text_of w))
