-- What holds of a table before step k: A is its left half, B its right half.
use Rattle.std.specs.Prelude.{◌≡◌, ℕ, ◌<◌, ◌≤◌, ◌≢◌, ◌⊎◌, ℤ, pos, ◌-ℤ◌, ◌*ℤ◌, ◌<ℤ◌}
use Rattle.linear.specs.Gram.{dot, times_gram}

pub record Invariant (n m : ℕ) (v : ℕ → ℤ) (R : ℕ → ℕ → ℤ) (k : ℕ) (A B : ℕ → ℕ → ℤ) : Type 0 where
  -- the left half is the right half times N
  pub halves : (i : ℕ) → i < m → (j : ℕ) → j < m → A i j ≡ times_gram n m v R (B i) j
  -- a row that is done is spare, and 0 in its left half, or needed, and alone in its column
  pub done : (j : ℕ) → j < k → ((l : ℕ) → l < m → A j l ≡ pos 0) ⊎ ((pos 0 <ℤ A j j) × ((i : ℕ) → i < m → i ≢ j → A i j ≡ pos 0))
  -- the right half of a row that is spare or not done is above 0 in its own place
  pub own : (i : ℕ) → i < m → (k ≤ i) ⊎ (A i i ≡ pos 0) → pos 0 <ℤ B i i
  -- and 0 in every other but those of needed rows before it
  pub support : (i : ℕ) → i < m → (k ≤ i) ⊎ (A i i ≡ pos 0) → (j : ℕ) → j < m → j ≢ i → (B i j ≡ pos 0) ⊎ ((j < k) × (j < i) × (pos 0 <ℤ A j j))
  -- nothing but 0 is orthogonal to all right halves
  pub kernel : (u : ℕ → ℤ) → ((i : ℕ) → i < m → dot m (B i) u ≡ pos 0) → (j : ℕ) → j < m → u j ≡ pos 0

-- Step k where the pivot is not 0: every other row i becomes p × row i - q × row k over a divisor above 0. For a row that stays, q is 0 and the divisor p.
pub record Step (m k : ℕ) (A B A' B' : ℕ → ℕ → ℤ) : Type 0 where
  pub same_A : (j : ℕ) → j < m → A' k j ≡ A k j
  pub same_B : (j : ℕ) → j < m → B' k j ≡ B k j
  pub divisor : ℕ → ℤ
  pub above : (i : ℕ) → i < m → i ≢ k → pos 0 <ℤ divisor i
  pub new_A : (i : ℕ) → i < m → i ≢ k → (j : ℕ) → j < m → divisor i *ℤ A' i j ≡ A k k *ℤ A i j -ℤ A i k *ℤ A k j
  pub new_B : (i : ℕ) → i < m → i ≢ k → (j : ℕ) → j < m → divisor i *ℤ B' i j ≡ A k k *ℤ B i j -ℤ A i k *ℤ B k j
