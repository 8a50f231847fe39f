-- What a finished table means, however it was made. A row is needed when its diagonal number is not 0, and else spare.
use Rattle.std.specs.Prelude.{◌≡◌, ℕ, ◌<◌, ◌≢◌, ℤ, pos, ◌≤ℤ◌}
use Rattle.linear.specs.Gram.{dot, times_gram}
use Rattle.linear.specs.Elimination.{Grid, entry, right_half}

pub record Meaning (n m : ℕ) (v : ℕ → ℤ) (R : ℕ → ℕ → ℤ) (t : Grid) : Type 0 where
  -- the left half is the right half times N
  pub halves : (i : ℕ) → i < m → (j : ℕ) → j < m → entry t i j ≡ times_gram n m v R (right_half m t i) j
  -- nothing but 0 is orthogonal to every row of the right half
  pub kernel : (u : ℕ → ℤ) → ((i : ℕ) → i < m → dot m (right_half m t i) u ≡ pos 0) → (j : ℕ) → j < m → u j ≡ pos 0
  -- no diagonal number is below 0
  pub diagonal : (i : ℕ) → i < m → pos 0 ≤ℤ entry t i i
  -- a needed row is 0 in the column of every other needed row
  pub needed : (i : ℕ) → i < m → entry t i i ≢ pos 0 → (j : ℕ) → j < m → entry t j j ≢ pos 0 → i ≢ j → entry t i j ≡ pos 0
  -- a spare row is 0 in its first m places
  pub spare : (i : ℕ) → i < m → entry t i i ≡ pos 0 → (j : ℕ) → j < m → entry t i j ≡ pos 0
