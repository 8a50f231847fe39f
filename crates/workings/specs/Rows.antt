-- The coefficients that a table is made of.
use Rattle.std.specs.Prelude.{ℕ, List, map, take, ℤ}
use Rattle.arrayvec.specs.ArrayVec.{ArrayVec}

-- The first n coefficients of each relation chosen.
abbrev pub coefficient_rows : ℕ → ArrayVec (List ℤ) → List (List ℤ)
coefficient_rows n chosen = map (take n) chosen.items
