-- Lists of coordinates, each a whole number of any size.
use Rattle.std.specs.Prelude.{ℕ, List, length, ℤ, ◌+ℤ◌, ◌*ℤ◌}
use Rattle.whole.specs.Lists.{tab, at}
use Rattle.whole.specs.Sums.{sum_below}

-- u + k × v, by coordinates.
abbrev pub plus_scaled : List ℤ → ℤ → List ℤ → List ℤ
plus_scaled us k vs = tab (length us) (λ c. at us c +ℤ k *ℤ at vs c)

-- The sum of the products of the coordinates, n to a value.
abbrev pub dot : ℕ → List ℤ → List ℤ → ℤ
dot n us vs = sum_below n (λ c. at us c *ℤ at vs c)
