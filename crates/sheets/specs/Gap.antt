-- How far a relation is from holding.
use Rattle.std.specs.Prelude.{ℕ, List, ℤ, ◌+ℤ◌, ◌*ℤ◌, neg_ℤ}
use Rattle.whole.specs.Lists.{at, coord}
use Rattle.whole.specs.Sums.{sum_below}

-- The sum of coefficient × value over n parameters less d × the constant, at coordinate c.
abbrev pub gap_at : ℕ → ℤ → List (List ℤ) → List ℤ → List ℤ → ℕ → ℤ
gap_at n d vs cs q c = neg_ℤ d *ℤ at q c +ℤ sum_below n (λ s. at cs s *ℤ coord vs s c)
