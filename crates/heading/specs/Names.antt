-- Names of a sheet's parameters.
use Rattle.std.specs.Prelude.{◌≡◌, ℕ, ◌<◌, ◌≤◌, ◌⊎◌, List, [], ◌∷◌, map, length, Some, None, Ok, Err, vec_items, Option, Result, Vec, ◌≢◌, slice_index, slice_index_or}
use Rattle.std.specs.Borrow.{Bor}
use Rattle.std.specs.Int.{IsInRange}
use Rattle.words.specs.declared.fault.Fault.{Fault}
use Rattle.words.specs.Faults.{Refuses}

-- a to z, or 0 to 9
abbrev pub NameByte : ℕ → Type 0
NameByte b = IsInRange 97 122 b ⊎ IsInRange 48 57 b

-- 1 to 8 such bytes, a letter first
pub record Named (w : List ℕ) : Type 0 where
  pub some : 0 < length w
  pub short : length w ≤ 8
  pub letter : IsInRange 97 122 (slice_index w 0)
  pub bytes : (k : ℕ) → k < length w → NameByte (slice_index w k)

-- 1 to 48 names, no two the same
pub record Names (ws : List (List ℕ)) : Type 0 where
  pub some : 0 < length ws
  pub few : length ws ≤ 48
  pub named : (i : ℕ) → i < length ws → Named (slice_index_or ws i [])
  pub distinct : (i j : ℕ) → i < j → j < length ws → slice_index_or ws i [] ≢ slice_index_or ws j []

-- what parts of a card hold
abbrev pub texts : List (Bor (List ℕ)) → List (List ℕ)
texts parts = map (λ p. p.now) parts

-- the word is among the first `count`
abbrev pub Has : List (List ℕ) → ℕ → List ℕ → Type 0
Has ws count w = (i : ℕ) × (i < count) × (i < length ws) × (slice_index_or ws i [] ≡ w)

-- the first of the words was read, or it is no name
abbrev pub NameRead : List (List ℕ) → List (List ℕ) → Option (Bor (List ℕ)) → Type 0
NameRead before after (Some w) = Named w.now × (before ≡ w.now ∷ after)
NameRead before after None = (w : List ℕ) (rest : List (List ℕ)) → before ≡ w ∷ rest → Named w → ⊥

-- the words were read as names, or they are not of that form
abbrev pub NamesRead : {G : Type 0} → List (List ℕ) → Result (Vec (Bor (List ℕ)) G) Fault → Type 0
NamesRead ws (Ok names) = (texts (vec_items names) ≡ ws) × Names ws
NamesRead ws (Err e) = Refuses e (Names ws → ⊥)
