-- Lists by index.
use Rattle.std.specs.Prelude.{ℕ, zero, suc, List, [], ◌∷◌, get_or, ℤ, pos}

-- The list of f 0 to f (n - 1).
abbrev pub tab {ℓ} : {X : Type ℓ} → ℕ → (ℕ → X) → List X
tab zero f = []
tab (suc n) f = f 0 ∷ tab n (λ i. f (suc i))

-- The number at place s of a list; 0 past its end.
abbrev pub at : List ℤ → ℕ → ℤ
at xs s = get_or xs s (pos 0)

-- Coordinate c of the value at place s of a list of values; 0 past an end.
abbrev pub coord : List (List ℤ) → ℕ → ℕ → ℤ
coord us s c = get_or (get_or us s []) c (pos 0)
