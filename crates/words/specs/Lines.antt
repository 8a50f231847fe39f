-- A card's lines.
use Rattle.std.specs.Prelude.{◌≡◌, ℕ, ◌<◌, ◌≤◌, cond, ◌⊎◌, List, [], ◌∷◌, ◌++◌, length, take, drop, Some, None, Ok, Err, Option, Result, ◌==◌, ◌≢◌, slice_index}
use Rattle.std.specs.Borrow.{Bor}
use Rattle.words.specs.declared.fault.Fault.{Fault}
use Rattle.words.specs.declared.fault.Fault.TheVariants.{Form}
use Rattle.words.specs.declared.lines.Lines.{Lines}
use Rattle.words.specs.Words.{on_first}

-- a card cut behind each byte 10; what follows the last of these is a line too, unless nothing does
abbrev pub lines : List ℕ → List (List ℕ)
lines [] = []
lines (b ∷ bs) = cond (b == 10) ((b ∷ []) ∷ lines bs) (on_first b (lines bs))

-- the part of the card that was not yet cut into lines
abbrev pub uncut : Lines → List ℕ
uncut r = r.rest.now

-- the first line was cut off, or there was none
abbrev pub CutOff : List ℕ → List ℕ → Option (Bor (List ℕ)) → Type 0
CutOff before after None = (lines before ≡ []) × (after ≡ before)
CutOff before after (Some line) = lines before ≡ line.now ∷ lines after

-- a line: its text, then byte 10, 1,024 bytes at most
pub record Lined (line text : List ℕ) : Type 0 where
  pub whole : line ≡ text ++ 10 ∷ []
  pub short : length line ≤ 1024

-- the text of a line, or the bytes are no line
abbrev pub TextOf : List ℕ → Option (Bor (List ℕ)) → Type 0
TextOf line (Some text) = Lined line text.now
TextOf line None = (text : List ℕ) → Lined line text → ⊥

-- the line stands at the front of the list and the rest is as it was; or the list is as it was, and the line is too long or the list too short for it
abbrev pub Placed : List ℕ → List ℕ → List ℕ → Result ℕ Fault → Type 0
Placed line before after (Ok n) = (take n after ≡ line) × (drop n after ≡ drop n before) × (n ≤ length before) × (length line ≤ 1024)
Placed line before after (Err e) = (after ≡ before) × (e ≡ Form) × ((1024 < length line) ⊎ (length before < length line))

-- no byte of the list is s
abbrev pub Lacks : ℕ → List ℕ → Type 0
Lacks s bs = (k : ℕ) → k < length bs → slice_index bs k ≢ s

-- lists one after the other
abbrev pub joined : List (List ℕ) → List ℕ
joined [] = []
joined (w ∷ ws) = w ++ joined ws

-- the bytes are a line's: byte 10 stands at their end and nowhere else
abbrev pub Whole : List ℕ → Type 0
Whole w = (front : List ℕ) × (w ≡ front ++ 10 ∷ []) × Lacks 10 front

-- each list is a line's bytes, but perhaps the last, which then is some bytes without a byte 10
abbrev pub Parted : List (List ℕ) → Type 0
Parted [] = Unit {0}
Parted (w ∷ []) = Whole w ⊎ ((0 < length w) × Lacks 10 w)
Parted (w ∷ v ∷ ws) = Whole w × Parted (v ∷ ws)

-- cutting a card into lines loses nothing, and cuts behind each byte 10 only
abbrev pub Cuts : Type 0
Cuts = (card : List ℕ) → (joined (lines card) ≡ card) × Parted (lines card)
