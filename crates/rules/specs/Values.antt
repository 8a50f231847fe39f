-- Lists of values, each value a list of whole coordinates.
use Rattle.std.specs.Prelude.{ℕ, List, ℤ, pos}
use Rattle.std.proofs.Math.Seq.{paste}
use Rattle.whole.specs.Lists.{tab}

-- The coordinates of one value.
abbrev pub Coords : Type 0
Coords = List ℤ

-- n values of `size` coordinates each.
abbrev pub grid : ℕ → ℕ → (ℕ → ℕ → ℤ) → List Coords
grid n size f = tab n (λ s. tab size (f s))

abbrev pub zeros : ℕ → ℕ → List Coords
zeros n size = grid n size (λ s c. pos 0)

-- The first n places of a list are written anew, the places beyond them untouched.
abbrev pub written : {A : Type 0} → ℕ → List A → List A → List A
written n new old = paste old 0 new n
