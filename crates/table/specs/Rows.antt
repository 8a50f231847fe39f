-- One row's change in a step of the elimination.
use Rattle.std.specs.Prelude.{ℕ, Bool, List, ◌++◌, drop, ℤ, ◌-ℤ◌, ◌*ℤ◌}
use Rattle.whole.specs.Lists.{tab, at}
use Rattle.whole.specs.Tests.{any, above}
use Rattle.linear.specs.Elimination.{reduced, table_limit}

-- p × row - q × pivot row, in the first w places.
abbrev pub mixed : ℕ → ℤ → ℤ → List ℤ → List ℤ → List ℤ
mixed w p q xs ys = tab w (λ j. p *ℤ at xs j -ℤ q *ℤ at ys j)

-- The row after the change: its first w places are mixed and reduced, the others left.
abbrev pub changed : ℕ → ℤ → ℤ → List ℤ → List ℤ → List ℤ
changed w p q xs ys = reduced (mixed w p q xs ys) ++ drop w xs

-- One of the first w numbers is beyond the limit.
abbrev pub row_beyond : ℕ → List ℤ → Bool
row_beyond w xs = any w (λ j. above table_limit (at xs j))
