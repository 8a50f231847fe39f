-- What the rows give: the answer, and the lists afterwards.
use Rattle.std.specs.Prelude.{ℕ, Bool, cond, not, ◌&&◌, ◌||◌, List, [], length, Ok, Err, Result, ◌==◌, slice_index, slice_index_or}
use Rattle.whole.specs.Lists.{coord}
use Rattle.whole.specs.Tests.{any, above, nonzero}
use Rattle.linear.specs.Elimination.{Grid}
use Rattle.records.specs.Outcomes.{guard}
use Rattle.records.specs.declared.refusal.Refusal.{Refusal}
use Rattle.records.specs.declared.refusal.Refusal.TheVariants.{Unfit, GapTooLarge, Impossible}
use Rattle.rules.specs.Limits.{most_residual}
use Rattle.rules.specs.Values.{Coords}
use Rattle.rules.specs.Gripping.{is_needed}
use Rattle.rules.specs.Pulling.{carried, contradicts, divisors, lowered, lowered_sums, some_above}
use Rattle.fractions.specs.Stopped.{until}

-- The list of m residuals cs, where it held `found`: the first that is too large stops it.
abbrev pub residuals_written : ℕ → ℕ → List Coords → List Coords → Result (Unit {0}) Refusal × List Coords
residuals_written size m cs found = (
  guard (some_above most_residual size m cs) GapTooLarge (Ok tt),
  until m (λ i. any size (λ c. above most_residual (coord cs i c))) (λ i. slice_index_or cs i []) (λ i. slice_index_or found i []),
)

-- The lists of the m rows' diagonal numbers and of what they carry, in lowest terms, where they held ps and us: the first spare row
-- that carries something other than zero stops both.
abbrev pub carried_written : ℕ → ℕ → Grid → List Coords → List ℕ → List Coords → Result (Unit {0}) Refusal × List ℕ × List Coords
carried_written size m t cs ps us =
    let gs = carried size m t cs in
    let hs = divisors m t gs in
    let off : ℕ → Bool = λ i. not (is_needed t i) && any size (λ c. nonzero (coord gs i c)) in (
      guard (contradicts size m t gs) Impossible (Ok tt),
      until m off (λ i. slice_index (lowered m t hs) i) (λ i. slice_index ps i),
      until m off (λ i. slice_index_or (lowered_sums size m gs hs) i []) (λ i. slice_index_or us i []),
    )

-- All three, each of m places; where a list has another length, none is written.
abbrev pub rows_written : ℕ → ℕ → Grid → List Coords → List Coords → List ℕ → List Coords → Result (Unit {0}) Refusal × List Coords × List ℕ × List Coords
rows_written size m t cs found ps us =
    let r = residuals_written size m cs found in
    let c = carried_written size m t cs ps us in
    cond (not (length found == m) || not (length ps == m) || not (length us == m)) (Err Unfit, found, ps, us) (
    cond (some_above most_residual size m cs) (r.0, r.1, ps, us) (c.0, cs, c.1, c.2))
