-- Lists of zeros.
use Rattle.std.proofs.Common.{◌≡◌, ℕ, zero, suc, ◌+◌, List, ◌∷◌, map, replicate, pos, sym, refl, ap₂}
use Rattle.std.specs.List.{range_with_len}
use Rattle.kinds.specs.Lists.{tab_same}
use Rattle.rules.specs.Values.{Coords, zeros}

-- a zero for each number of a range
pub zeros_from : (n a size : ℕ) → map (λ (k : ℕ). replicate size (pos 0)) (range_with_len a n) ≡ zeros n size
zeros_from zero a size = refl
zeros_from (suc n) a size = ap₂ (λ (x : Coords) (xs : List Coords). x ∷ xs) (sym (tab_same size (pos 0))) (zeros_from n (a + 1) size)
