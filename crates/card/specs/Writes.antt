-- What writing a line leaves, and the two ways back.
use Rattle.std.specs.Prelude.{◌≡◌, ℕ, ◌<◌, ◌≤◌, List, [], ◌∷◌, ◌++◌, length, take, drop, Ok, Err, vec_items, Result, Vec}
use Rattle.words.specs.declared.fault.Fault.{Fault}
use Rattle.words.specs.Faults.{Refuses}
use Rattle.words.specs.Words.{joined_by, spaced}
use Rattle.cells.specs.Verbs.{verb_word}
use Rattle.calls.specs.declared.call.Call.{Call}
use Rattle.cells.specs.declared.cell.Cell.{Cell}
use Rattle.lines.specs.Lines.{Said, said, verb_of, Values, Spelled}

-- words that are of the form were appended, each behind a space, or no words are of the form
abbrev pub PutWords : (List (List ℕ) → Type 0) → List ℕ → List ℕ → Result (Unit {0}) Fault → Type 0
PutWords Form before after (Ok x) = (ws : List (List ℕ)) × (after ≡ before ++ spaced ws) × Form ws
PutWords Form before after (Err e) = Refuses e ((ws : List (List ℕ)) → Form ws → ⊥)

-- one word
abbrev pub OneWord : {V : Type 0} → (List ℕ → V → Type 0) → V → List (List ℕ) → Type 0
OneWord form v ws = (w : List ℕ) × (ws ≡ w ∷ []) × form w v

-- the bytes of a line, however many
pub record Worded {V : Type 0} (form : List ℕ → V → Type 0) (count : ℕ) (bs : List ℕ) (s : Said V) : Type 0 where
  pub words : List (List ℕ)
  pub values : Values form count words s
  pub joined : bs ≡ joined_by 32 (verb_word (verb_of s) ∷ words) ++ 10 ∷ []

abbrev pub LineBytes : {V G : Type 0} → (List ℕ → V → Type 0) → ℕ → Said V → Result (Vec ℕ G) Fault → Type 0
LineBytes form count s (Ok text) = Worded form count (vec_items text) s
LineBytes form count s (Err e) = Refuses e ((ws : List (List ℕ)) → Values form count ws s → ⊥)

-- the line's bytes stand at the front of the list and the rest is as it was; or the list is as it was, and no line says this or the list is too short for it
abbrev pub LineWritten : {V : Type 0} → (List ℕ → V → Type 0) → ℕ → Said V → List ℕ → List ℕ → Result ℕ Fault → Type 0
LineWritten form count s before after (Ok n) = Spelled form count (take n after) s × (drop n after ≡ drop n before) × (n ≤ length before)
LineWritten form count s before after (Err e) = (after ≡ before) × Refuses e ((bs : List ℕ) → Spelled form count bs s → length before < length bs)

-- bytes say one thing at most
abbrev pub OneReading : {V : Type 0} → (List ℕ → V → Type 0) → Type 0
OneReading form = (count : ℕ) (bs : List ℕ) (s t : Said _) → Spelled form count bs s → Spelled form count bs t → s ≡ t

-- a thing has one spelling at most
abbrev pub OneSpelling : {V : Type 0} → (List ℕ → V → Type 0) → Type 0
OneSpelling form = (count : ℕ) (bs cs : List ℕ) (s : Said _) → Spelled form count bs s → Spelled form count cs s → bs ≡ cs

-- read and written back, a line has the same bytes; refused only where the bytes spell no line or the list is too short for them
abbrev pub Copied : {V : Type 0} → (List ℕ → V → Type 0) → ℕ → List ℕ → List ℕ → List ℕ → Result ℕ Fault → Type 0
Copied form count line before after (Ok n) = ((s : Said _) × Spelled form count line s) × (take n after ≡ line) × (drop n after ≡ drop n before) × (n ≤ length before)
Copied form count line before after (Err e) = (after ≡ before) × Refuses e ((s : Said _) → Spelled form count line s → length before < length line)

-- written and read back, a line says the same, and the list holds its bytes; refused only where no spelling of it fits the list
abbrev pub Reread : {V : Type 0} → (List ℕ → V → Type 0) → ℕ → Said V → List ℕ → List ℕ → Result (Call V Cell) Fault → Type 0
Reread form count s before after (Ok x) = (said x ≡ s) × ((n : ℕ) × LineWritten form count s before after (Ok n))
Reread form count s before after (Err e) = Refuses e ((after ≡ before) × ((bs : List ℕ) → Spelled form count bs s → length before < length bs))
