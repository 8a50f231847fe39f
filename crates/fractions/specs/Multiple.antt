-- The common multiple of the needed rows, and their multipliers.
use Rattle.std.specs.Prelude.{ℕ, zero, suc, ◌/◌, Bool, cond, not, ◌&&◌, ◌||◌, List, [], length, pos, ◌*ℤ◌, Ok, Err, Result, ◌==◌, nat_lt, slice_index, slice_index_or}
use Rattle.records.specs.Outcomes.{guard}
use Rattle.records.specs.declared.refusal.Refusal.{Refusal}
use Rattle.records.specs.declared.refusal.Refusal.TheVariants.{Unfit, TooFine}
use Rattle.whole.specs.Lists.{tab, at}
use Rattle.whole.specs.Tests.{any, above}
use Rattle.linear.specs.Elimination.{table_limit}
use Rattle.rules.specs.Limits.{most_multiplier}
use Rattle.rules.specs.Values.{Coords}
use Rattle.whole.specs.Gcd.{lcm}
use Rattle.fractions.specs.Stopped.{until}

-- A number above 0 is taken up into a multiple.
abbrev pub taken_up : ℕ → ℕ → ℕ
taken_up l p = cond (nat_lt 0 p) (lcm l p) l

-- The least common multiple of the first k numbers above 0, taken up one at a time; 1 when there are none.
abbrev pub multiple : ℕ → List ℕ → ℕ
multiple zero ps = 1
multiple (suc k) ps = taken_up (multiple k ps) (slice_index ps k)

-- (ℓ ÷ p) × each coordinate.
abbrev pub times : ℕ → ℕ → ℕ → Coords → Coords
times size l p us = tab size (λ c. pos (l / p) *ℤ at us c)

-- In a row with a number above 0, a coordinate is beyond the table's limit, or one of the multiplier is above 10^12 in size.
abbrev pub strays : ℕ → ℕ → ℕ → Coords → Bool
strays size l p us = nat_lt 0 p && (any size (λ c. above table_limit (at us c)) || any size (λ c. above most_multiplier (pos (l / p) *ℤ at us c)))

-- The multiplier of a row with a number above 0; another row stays.
abbrev pub multiplied : ℕ → ℕ → ℕ → Coords → Coords
multiplied size l p us = cond (nat_lt 0 p) (times size l p us) us

-- The answer, and the list afterwards, for rows with these numbers that carry us: where one strays, it and those behind it stay.
abbrev pub multiplying : ℕ → ℕ → List ℕ → List Coords → Result (Unit {0}) Refusal × List Coords
multiplying size l ps us =
    let n = length ps in
    let out : ℕ → Bool = λ i. strays size l (slice_index ps i) (slice_index_or us i []) in
    cond (not (n == length us)) (Err Unfit, us) (
      guard (any n out) TooFine (Ok tt),
      until n out (λ i. multiplied size l (slice_index ps i) (slice_index_or us i [])) (λ i. slice_index_or us i []),
    )
