-- Rows of coefficients: R i s is the coefficient of parameter s in relation i.
use Rattle.std.specs.Prelude.{ℕ, ℤ, ◌*ℤ◌}
use Rattle.whole.specs.Sums.{sum_below}

-- x 0 × y 0 + .. + x (n - 1) × y (n - 1)
abbrev pub dot : ℕ → (ℕ → ℤ) → (ℕ → ℤ) → ℤ
dot n x y = sum_below n (λ i. x i *ℤ y i)

-- The combination of m rows with the factors x, at column s.
abbrev pub comb : ℕ → (ℕ → ℕ → ℤ) → (ℕ → ℤ) → ℕ → ℤ
comb m R x s = sum_below m (λ i. x i *ℤ R i s)

-- The weighted Gram matrix N. A parameter that is not loose has v s = 0, which leaves it out.
abbrev pub gram : ℕ → (ℕ → ℤ) → (ℕ → ℕ → ℤ) → ℕ → ℕ → ℤ
gram n v R i j = sum_below n (λ s. v s *ℤ (R i s *ℤ R j s))

-- The row x times N, at column j.
abbrev pub times_gram : ℕ → ℕ → (ℕ → ℤ) → (ℕ → ℕ → ℤ) → (ℕ → ℤ) → ℕ → ℤ
times_gram n m v R x j = comb m (gram n v R) x j
