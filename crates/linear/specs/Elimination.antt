-- The table of m relations, a list of m rows of 2 m numbers, and its elimination.
use Rattle.std.specs.Prelude.{ℕ, zero, suc, ◌+◌, ◌-◌, Bool, cond, ◌||◌, List, [], map, ℤ, pos, ◌-ℤ◌, ◌*ℤ◌, Ok, Result, ◌==◌, int_div, nat_lt, slice_index_or}
use Rattle.records.specs.declared.refusal.Refusal.{Refusal}
use Rattle.records.specs.declared.refusal.Refusal.TheVariants.{TableTooLarge}
use Rattle.records.specs.Outcomes.{guard, onward}
use Rattle.whole.specs.Lists.{tab, at}
use Rattle.whole.specs.Tests.{any, above, is_zero}
use Rattle.whole.specs.Gcd.{gcd_all}
use Rattle.linear.specs.Gram.{gram}

abbrev pub Grid : Type 0
Grid = List (List ℤ)

-- The number in row i, column j.
abbrev pub entry : Grid → ℕ → ℕ → ℤ
entry t i j = at (slice_index_or t i []) j

-- Row i in its last m places.
abbrev pub right_half : ℕ → Grid → ℕ → ℕ → ℤ
right_half m t i j = entry t i (m + j)

abbrev pub unit : ℕ → ℕ → ℤ
unit i j = cond (i == j) (pos 1) (pos 0)

-- The first table: N, then the unit matrix.
abbrev pub start : ℕ → ℕ → (ℕ → ℤ) → (ℕ → ℕ → ℤ) → Grid
start n m v R = tab m (λ i. tab (m + m) (λ j. cond (nat_lt j m) (gram n v R i j) (unit i (j - m))))

-- A row divided by the greatest common divisor of its numbers.
abbrev pub reduced : List ℤ → List ℤ
reduced xs = let g = gcd_all xs in map (λ x. int_div x (pos g)) xs

-- Row i after step k: p × row i - q × row k, reduced, with p in row k and q in row i of column k. It stays where q is 0, and row k itself stays.
abbrev pub new_row : ℕ → ℕ → Grid → ℕ → List ℤ
new_row m k t i = cond (i == k || is_zero (entry t i k)) (slice_index_or t i [])
    (reduced (tab (m + m) (λ j. entry t k k *ℤ entry t i j -ℤ entry t i k *ℤ entry t k j)))

-- Step k. A pivot p of 0 leaves the table as it is.
abbrev pub step : ℕ → ℕ → Grid → Grid
step m k t = cond (is_zero (entry t k k)) t (tab m (new_row m k t))

-- The first k steps.
abbrev pub steps : ℕ → ℕ → Grid → Grid
steps m zero t = t
steps m (suc k) t = step m k (steps m k t)

-- No number of a table is larger in size.
abbrev pub table_limit : ℕ
table_limit = 2147483647

-- A number of the table is beyond the limit.
abbrev pub beyond : ℕ → Grid → Bool
beyond m t = any m (λ i. any (m + m) (λ j. above table_limit (entry t i j)))

abbrev pub within_limit : ℕ → Grid → Result Grid Refusal
within_limit m t = guard (beyond m t) TableTooLarge (Ok t)

-- The first k steps; the first table with a number beyond the limit ends them.
abbrev pub eliminated : ℕ → ℕ → Grid → Result Grid Refusal
eliminated m zero t = within_limit m t
eliminated m (suc k) t = onward (eliminated m k t) (λ u. within_limit m (step m k u))
