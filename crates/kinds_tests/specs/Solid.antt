-- A kind with three coordinates, whose inner product weighs them 1, 2 and 3.
use Rattle.std.specs.Prelude.{suc, List, [], ◌∷◌, ℤ, pos, ◌*ℤ◌}
use Rattle.whole.specs.Lists.{at}
use Rattle.whole.specs.Sums.{sum_below}
use Rattle.kinds_tests.specs.declared.solid.Solid.{Solid}

abbrev pub solid_coords : Solid → List ℤ
solid_coords v = v.x ∷ v.y ∷ v.z ∷ []

-- x × s + 2 × y × t + 3 × z × w
abbrev pub solid_inner : List ℤ → List ℤ → ℤ
solid_inner us vs = sum_below 3 (λ c. pos (suc c) *ℤ (at us c *ℤ at vs c))
