-- The theorems of the elimination, and of what it is for.
use Rattle.std.specs.Prelude.{◌≡◌, ℕ, ◌+◌, ◌*◌, ◌^◌, ◌<◌, ◌≤◌, false, ◌≢◌, ◌↔◌, List, ℤ, pos, ◌-ℤ◌, ◌*ℤ◌, ◌≤ℤ◌, ◌<ℤ◌, Ok, unsigned_abs}
use Rattle.whole.specs.Sums.{sum_below}
use Rattle.linear.specs.Products.{InnerProduct}
use Rattle.linear.specs.Elimination.{Grid, entry, start, steps, table_limit, beyond, eliminated}
use Rattle.linear.specs.Meaning.{Meaning}
use Rattle.linear.specs.Placings.{Meets, Agrees, residual, carried, Multipliers, placed, Weighted, NearestPlacing, Scaled}

-- No v s is below 0.
abbrev pub Shares : ℕ → (ℕ → ℤ) → Type 0
Shares n v = (s : ℕ) → s < n → pos 0 ≤ℤ v s

-- ---- the steps
-- The pivot of step k is not below 0, and where it is 0, row k is 0 in its first m places.
abbrev pub Pivots : Type 0
Pivots = (n m : ℕ) (v : ℕ → ℤ) (R : ℕ → ℕ → ℤ) → Shares n v → (k : ℕ) → k < m
    → (pos 0 ≤ℤ entry (steps m k (start n m v R)) k k)
    × (entry (steps m k (start n m v R)) k k ≡ pos 0 → (j : ℕ) → j < m → entry (steps m k (start n m v R)) k j ≡ pos 0)

-- So it is at the end.
abbrev pub Diagonal : Type 0
Diagonal = (n m : ℕ) (v : ℕ → ℤ) (R : ℕ → ℕ → ℤ) → Shares n v → (i : ℕ) → i < m
    → (pos 0 ≤ℤ entry (steps m m (start n m v R)) i i)
    × (entry (steps m m (start n m v R)) i i ≡ pos 0 → (j : ℕ) → j < m → entry (steps m m (start n m v R)) i j ≡ pos 0)

-- A row's diagonal number is 0 at the end exactly when its pivot was 0.
abbrev pub PivotsLast : Type 0
PivotsLast = (n m : ℕ) (v : ℕ → ℤ) (R : ℕ → ℕ → ℤ) → Shares n v → (i : ℕ) → i < m
    → (entry (steps m i (start n m v R)) i i ≡ pos 0) ↔ (entry (steps m m (start n m v R)) i i ≡ pos 0)

-- The loose coefficients of relation i are a rational combination, y over e, of those of earlier relations.
abbrev pub Combined : ℕ → (ℕ → ℤ) → (ℕ → ℕ → ℤ) → ℕ → Type 0
Combined n v R i = (e : ℤ) × (y : ℕ → ℤ) × (e ≢ pos 0) × ((s : ℕ) → s < n → v s ≢ pos 0 → e *ℤ R i s ≡ sum_below i (λ j. y j *ℤ R j s))

-- A row is spare at the end exactly when its relation is such a combination.
abbrev pub Spares : Type 0
Spares = (n m : ℕ) (v : ℕ → ℤ) (R : ℕ → ℕ → ℤ) → Shares n v → (i : ℕ) → i < m
    → (entry (steps m m (start n m v R)) i i ≡ pos 0) ↔ Combined n v R i

-- ---- the limit
-- A table that is accepted is the one after the steps, and no number of it is beyond the limit.
abbrev pub Accepted : Type 0
Accepted = (m k : ℕ) (t u : Grid) → eliminated m k t ≡ Ok u → (u ≡ steps m k t) × (beyond m u ≡ false)

-- Where no number is beyond the limit, p × row i - q × row k is within 2 L², which 64 signed bits hold.
abbrev pub Room : Type 0
Room = (m : ℕ) (t : Grid) → beyond m t ≡ false → (k i j : ℕ) → k < m → i < m → j < m + m
    → (unsigned_abs (entry t k k *ℤ entry t i j -ℤ entry t i k *ℤ entry t k j) ≤ 2 * (table_limit * table_limit)) × (2 * (table_limit * table_limit) < 2 ^ 63)

-- ---- what the table is for
-- A finished elimination has the meaning.
abbrev pub Finished : Type 0
Finished = (n m : ℕ) (v : ℕ → ℤ) (R : ℕ → ℕ → ℤ) (t : Grid) → Shares n v → eliminated m m (start n m v R) ≡ Ok t → Meaning n m v R t

-- A spare row that carries something other than 0 leaves no rational placing.
abbrev pub Infeasible : Type 0
Infeasible = (size n m : ℕ) (v : ℕ → ℤ) (R Q : ℕ → ℕ → ℤ) (t : Grid) (d : ℤ) (base : ℕ → ℕ → ℤ) → Shares n v → Meaning n m v R t
    → (i : ℕ) → i < m → entry t i i ≡ pos 0 → (c : ℕ) → c < size → carried m t (residual n R Q d base) i c ≢ pos 0
    → (e : ℤ) (y : ℕ → ℕ → ℤ) → e ≢ pos 0 → Agrees size n v d base e y → ¬ (Meets size n m R Q e y)

-- Else the multipliers give the nearest placing, for any inner product.
abbrev pub Nearest : Type 0
Nearest = (size : ℕ) (inner : List ℤ → List ℤ → ℤ) (n m : ℕ) (κ : ℤ) (w v : ℕ → ℤ) (R Q : ℕ → ℕ → ℤ) (t : Grid) (d f : ℤ) (base x : ℕ → ℕ → ℤ)
    → InnerProduct size inner → κ ≢ pos 0 → Weighted n κ w v → d ≢ pos 0 → Meaning n m v R t
    → Multipliers size m t (carried m t (residual n R Q d base)) f x
    → NearestPlacing size inner n m w v R Q d base (f *ℤ d) (placed m v R f base x)

-- A factor above 0 of the denominator and of every numerator can be taken off.
abbrev pub Lowest : Type 0
Lowest = (size : ℕ) (inner : List ℤ → List ℤ → ℤ) (n m : ℕ) (w v : ℕ → ℤ) (R Q : ℕ → ℕ → ℤ) (d : ℤ) (base : ℕ → ℕ → ℤ) (h e f : ℤ) (y z : ℕ → ℕ → ℤ)
    → InnerProduct size inner → pos 0 <ℤ h → Scaled size n h e y f z
    → NearestPlacing size inner n m w v R Q d base f z → NearestPlacing size inner n m w v R Q d base e y
