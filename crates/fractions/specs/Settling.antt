-- Numerators over a common denominator, in lowest terms.
use Rattle.std.specs.Prelude.{ℕ, cond, List, [], length, ℤ, pos, ◌*ℤ◌, Ok, Err, Result, int_lt, slice_index_or}
use Rattle.whole.specs.Lists.{tab}
use Rattle.records.specs.Outcomes.{guard}
use Rattle.records.specs.declared.refusal.Refusal.{Refusal}
use Rattle.records.specs.declared.refusal.Refusal.TheVariants.{Unfit, TooFine, OffSheet}
use Rattle.rules.specs.Limits.{most_denominator}
use Rattle.rules.specs.Values.{Coords}
use Rattle.rules.specs.Sheets.{bad_denominator, bad_values}
use Rattle.rules.specs.Pulling.{lowest}
use Rattle.fractions.specs.Steps.{divided}

-- Each value divided by g.
abbrev pub all_divided : ℕ → List Coords → ℤ → List Coords
all_divided size us g = tab (length us) (λ s. divided size (slice_index_or us s []) g)

-- The denominator in lowest terms, or the refusal, and the list afterwards: n numerators us over ℓ × d.
abbrev pub settling : ℕ → ℕ → ℕ → ℤ → List Coords → Result ℤ Refusal × List Coords
settling size n l d us =
    let p = lowest size n (pos l *ℤ d) us in
    cond (bad_denominator d) (Err Unfit, us) (
    cond (int_lt (pos most_denominator) p.over) (Err TooFine, us) (
      guard (bad_values size n p.over p.nums) OffSheet (Ok p.over),
      p.nums,
    ))
