-- From the rows in lowest terms to the proposal.
use Rattle.std.specs.Prelude.{ℕ, ◌||◌, List, [], length, ℤ, pos, ◌*ℤ◌, Result, nat_lt, slice_index, slice_index_or}
use Rattle.records.specs.Outcomes.{guard}
use Rattle.records.specs.declared.refusal.Refusal.{Refusal}
use Rattle.records.specs.declared.refusal.Refusal.TheVariants.{TooFine}
use Rattle.records.specs.declared.relation.Relation.{Relation}
use Rattle.records.specs.declared.role.Role.{Role}
use Rattle.whole.specs.Lists.{tab, at, coord}
use Rattle.whole.specs.Tests.{any}
use Rattle.linear.specs.Elimination.{table_limit}
use Rattle.rules.specs.Values.{Coords, grid}
use Rattle.rules.specs.Gripping.{role}
use Rattle.rules.specs.Pulling.{numerator, Placing, lowest, settled}
use Rattle.pulls.specs.Steps.{shift_at}
use Rattle.fractions.specs.Multiple.{multiple, strays, multiplied}

-- The numerators over l × d, where xs are the multipliers of the rows with these numbers.
abbrev pub numerators_by : ℕ → ℕ → List Role → List ℤ → ℕ → ℤ → List Coords → List Coords → List Relation → List ℕ → List Coords → List Coords
numerators_by size n roles vs l d values wishes rs rows xs =
    grid n size (λ s c. numerator (role roles s) (pos l) d (coord values s c) (coord wishes s c) (at vs s) (shift_at rs rows xs s c))

-- Each needed row's multiplier; a spare row stays.
abbrev pub all_multiplied : ℕ → ℕ → List ℕ → List Coords → List Coords
all_multiplied size l ps us = tab (length ps) (λ i. multiplied size l (slice_index ps i) (slice_index_or us i []))

-- ps are the rows' diagonal numbers and us what the rows carry, both in lowest terms.
abbrev pub finished : ℕ → ℕ → List Role → List ℤ → ℤ → List Coords → List Coords → List Relation → List ℕ → List ℕ → List Coords → Result Placing Refusal
finished size n roles vs d values wishes rs rows ps us =
    let l = multiple (length ps) ps in
    guard (nat_lt table_limit l || any (length ps) (λ i. strays size l (slice_index ps i) (slice_index_or us i []))) TooFine
    (settled size n (lowest size n (pos l *ℤ d) (numerators_by size n roles vs l d values wishes rs rows (all_multiplied size l ps us))))
