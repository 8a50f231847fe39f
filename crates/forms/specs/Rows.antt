-- What reading one value, or several, tells of the words that were left before it.
use Rattle.std.specs.Prelude.{◌≡◌, ℕ, List, [], ◌∷◌, ◌++◌, length, Some, None, Ok, Err, vec_items, Option, Result, Vec}
use Rattle.words.specs.declared.fault.Fault.{Fault}
use Rattle.words.specs.Faults.{Refuses}

-- the words write the values, one each
abbrev pub Each : {V : Type 0} → (List ℕ → V → Type 0) → List (List ℕ) → List V → Type 0
Each form [] [] = Unit {0}
Each form [] (v ∷ vs) = ⊥
Each form (w ∷ ws) [] = ⊥
Each form (w ∷ ws) (v ∷ vs) = form w v × Each form ws vs

-- the next word was read as a value, or it writes none
abbrev pub OneRead : {V : Type 0} → (List ℕ → V → Type 0) → List (List ℕ) → List (List ℕ) → Option V → Type 0
OneRead form before after (Some x) = (w : List ℕ) × (before ≡ w ∷ after) × form w x
OneRead form before after None = (w : List ℕ) (rest : List (List ℕ)) (x : _) → before ≡ w ∷ rest → form w x → ⊥

-- the next `count` words write the values
abbrev pub Row : {V : Type 0} → (List ℕ → V → Type 0) → ℕ → List (List ℕ) → List (List ℕ) → List V → Type 0
Row form count before after xs = (ws : List (List ℕ)) × (before ≡ ws ++ after) × (length xs ≡ count) × Each form ws xs

abbrev pub RowRead : {V G : Type 0} → (List ℕ → V → Type 0) → ℕ → List (List ℕ) → List (List ℕ) → Result (Vec V G) Fault → Type 0
RowRead form count before after (Ok xs) = Row form count before after (vec_items xs)
RowRead form count before after (Err e) = Refuses e ((rest : List (List ℕ)) (xs : List _) → Row form count before rest xs → ⊥)
