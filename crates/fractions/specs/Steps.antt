-- Steps on one value, by coordinates.
use Rattle.std.specs.Prelude.{ℕ, cond, List, ℤ, pos, fold, int_div, int_lt, unsigned_abs}
use Rattle.whole.specs.Lists.{tab, at}
use Rattle.whole.specs.Gcd.{gcd}
use Rattle.kinds.specs.Coords.{plus_scaled}
use Rattle.kinds.specs.Outcomes.{all_fit}
use Rattle.rules.specs.Values.{Coords}

-- u + k × v where it fits, and u where it does not.
abbrev pub plus : Coords → ℤ → Coords → Coords
plus us k vs = cond (all_fit us k vs) (plus_scaled us k vs) us

-- The greatest common divisor of a number and a list's numbers.
abbrev pub divisor_from : ℕ → List ℤ → ℕ
divisor_from a xs = fold (λ g x. gcd g (unsigned_abs x)) a xs

-- Each coordinate divided by g.
abbrev pub quotients : ℕ → Coords → ℤ → Coords
quotients size us g = tab size (λ c. int_div (at us c) g)

-- The same; nothing is divided by a number below 1.
abbrev pub divided : ℕ → Coords → ℤ → Coords
divided size us g = cond (int_lt g (pos 1)) us (quotients size us g)
