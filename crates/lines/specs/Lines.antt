-- Lines: which bytes say what.
use Rattle.std.specs.Prelude.{◌≡◌, ℕ, ◌≤◌, List, [], ◌∷◌, ◌++◌, length, ℤ, Ok, Err, vec_items, Result}
use Rattle.words.specs.declared.fault.Fault.{Fault}
use Rattle.cells.specs.declared.cell.Cell.{Cell}
use Rattle.cells.specs.declared.verb.Verb.{Verb}
use Rattle.cells.specs.declared.verb.Verb.TheVariants as v
use Rattle.calls.specs.declared.call.Call.{Call}
use Rattle.calls.specs.declared.call.Call.TheVariants as l
use Rattle.words.specs.Numbers.{Number}
use Rattle.words.specs.Words.{joined_by}
use Rattle.cells.specs.Cells.{CellForm}
use Rattle.cells.specs.Verbs.{verb_word}
use Rattle.forms.specs.Rows.{Each}
use Rattle.words.specs.Faults.{Refuses}

-- a call with its values, V being the sheet's kind of value
pub data Said (V : Type 0) : Type 0 where
  binds : List ℤ → V → Said V
  unbinds : ℤ → Said V
  grips : List Cell → Said V
  pulls : List V → Said V
  keeps : Said V
  drops : Said V

-- what the code's line says
abbrev pub said : {V : Type 0} → Call V Cell → Said V
said (l.Bind cs q) = binds (vec_items cs) q
said (l.Unbind n) = unbinds n
said (l.Grip cells) = grips (vec_items cells)
said (l.Pull vs) = pulls (vec_items vs)
said l.Keep = keeps
said l.Drop = drops

abbrev pub verb_of : {V : Type 0} → Said V → Verb
verb_of (binds cs q) = v.Bind
verb_of (unbinds n) = v.Unbind
verb_of (grips cells) = v.Grip
verb_of (pulls vs) = v.Pull
verb_of keeps = v.Keep
verb_of drops = v.Drop

-- the words behind the call write its values, in the order of the names, of which there are `count`
abbrev pub Values : {V : Type 0} → (List ℕ → V → Type 0) → ℕ → List (List ℕ) → Said V → Type 0
Values form count ws (binds cs q) = (vs : List (List ℕ)) × (w : List ℕ) × (ws ≡ vs ++ w ∷ []) × (length cs ≡ count) × Each Number vs cs × form w q
Values form count ws (unbinds n) = (w : List ℕ) × (ws ≡ w ∷ []) × Number w n
Values form count ws (grips cells) = (length cells ≡ count) × Each CellForm ws cells
Values form count ws (pulls xs) = (length xs ≡ count) × Each form ws xs
Values form count ws keeps = ws ≡ []
Values form count ws drops = ws ≡ []

-- the bytes of a line: its words with one space between each two, then byte 10, 1,024 bytes at most
pub record Spelled {V : Type 0} (form : List ℕ → V → Type 0) (count : ℕ) (bs : List ℕ) (s : Said V) : Type 0 where
  pub words : List (List ℕ)
  pub values : Values form count words s
  pub joined : bs ≡ joined_by 32 (verb_word (verb_of s) ∷ words) ++ 10 ∷ []
  pub short : length bs ≤ 1024

-- what was read behind a verb is all that the words can say
abbrev pub ReadBy : {V : Type 0} → (List ℕ → V → Type 0) → ℕ → Verb → List (List ℕ) → Result (Call V Cell) Fault → Type 0
ReadBy form count verb ws (Ok x) = (verb_of (said x) ≡ verb) × Values form count ws (said x)
ReadBy form count verb ws (Err e) = Refuses e ((s : Said _) → verb_of s ≡ verb → Values form count ws s → ⊥)

-- a line is read exactly when its bytes spell one
abbrev pub LineRead : {V : Type 0} → (List ℕ → V → Type 0) → ℕ → List ℕ → Result (Call V Cell) Fault → Type 0
LineRead form count bs (Ok x) = Spelled form count bs (said x)
LineRead form count bs (Err e) = Refuses e ((s : Said _) → Spelled form count bs s → ⊥)
