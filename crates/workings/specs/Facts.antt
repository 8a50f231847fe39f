-- What is true of every table that a grip finishes.
use Rattle.std.specs.Prelude.{◌≡◌, ℕ, ◌<◌, ◌↔◌, List, length, pos, ◌≤ℤ◌}
use Rattle.records.specs.declared.role.Role.{Role}
use Rattle.linear.specs.Elimination.{Grid, entry, start, steps}
use Rattle.linear.specs.Meaning.{Meaning}
use Rattle.linear.specs.Theorems.{Combined}
use Rattle.rules.specs.Gripping.{role, share, coef}
use Rattle.rules.specs.Sheets as rules

-- bs are the relations that count.
pub record Finished (n : ℕ) (roles : List Role) (bs : List rules.Bond) (t : Grid) : Type 0 where
  -- the table after k steps has a pivot that is not below 0
  pub pivots : (k : ℕ) → k < length bs → pos 0 ≤ℤ entry (steps (length bs) k (start n (length bs) (λ s. share (role roles s)) (coef bs))) k k
  -- a spare row is 0 in its first m places
  pub spare_rows : (i : ℕ) → i < length bs → entry t i i ≡ pos 0 → (j : ℕ) → j < length bs → entry t i j ≡ pos 0
  -- a relation is spare exactly when its loose coefficients are a rational combination of those of earlier ones
  pub spares : (i : ℕ) → i < length bs → (entry t i i ≡ pos 0) ↔ Combined n (λ s. share (role roles s)) (coef bs) i
  -- what a pull may take the table for
  pub meaning : Meaning n (length bs) (λ s. share (role roles s)) (coef bs) t
