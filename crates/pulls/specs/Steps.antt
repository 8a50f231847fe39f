-- The steps of a pull after its rows, by coordinates.
use Rattle.std.specs.Prelude.{ℕ, List, length, ℤ, ◌+ℤ◌, ◌*ℤ◌, Ok, Err, Result, slice_index}
use Rattle.whole.specs.Lists.{at, coord}
use Rattle.whole.specs.Sums.{sum_below}
use Rattle.records.specs.declared.refusal.Refusal.{Refusal}
use Rattle.records.specs.declared.relation.Relation.{Relation}
use Rattle.records.specs.declared.role.Role.{Role}
use Rattle.records.specs.declared.role.Role.TheVariants.{Held, Pulled, Loose}
use Rattle.rules.specs.Limits.{working_places}
use Rattle.rules.specs.Values.{Coords, zeros}
use Rattle.rules.specs.Sheets.{relation_at}
use Rattle.rules.specs.Pulling.{Placing}

-- The denominator that was found, with the list that holds the numerators; or the refusal.
abbrev pub placed : Result ℤ Refusal → List Coords → Result Placing Refusal
placed (Ok d) us = Ok (record { over = d; nums = us })
placed (Err e) us = Err e

-- A parameter's shift at coordinate c: the sum of its coefficient × multiplier over the relations with these numbers.
abbrev pub shift_at : List Relation → List ℕ → List Coords → ℕ → ℕ → ℤ
shift_at rs rows xs s c = sum_below (length rows) (λ i. at (relation_at rs (slice_index rows i)).coefficients s *ℤ coord xs i c)

-- A numerator over e = ℓ × d, from ℓ, e, the kept numerator, the wish, v(s) and the shift.
abbrev pub numerator_over : Role → ℤ → ℤ → ℤ → ℤ → ℤ → ℤ → ℤ
numerator_over Held l e n wish v x = l *ℤ n
numerator_over Pulled l e n wish v x = e *ℤ wish
numerator_over (Loose w) l e n wish v x = e *ℤ wish +ℤ v *ℤ x

-- What a pull leaves in lists of exactly the places that it writes.
abbrev pub exactly : ℕ → ℕ → Result Placing Refusal → Result ℤ Refusal × List Coords × List Coords
exactly size n (Ok p) = (Ok p.over, p.nums, zeros working_places size)
exactly size n (Err e) = (Err e, zeros n size, zeros working_places size)
