-- Rational placings. Parameter s has the coordinates y s 0 to y s (size - 1) over one denominator e.
use Rattle.std.specs.Prelude.{◌≡◌, ℕ, ◌+◌, ◌<◌, ◌≢◌, ◌⊎◌, List, ℤ, pos, ◌+ℤ◌, ◌-ℤ◌, ◌*ℤ◌, ◌≤ℤ◌, ◌<ℤ◌}
use Rattle.whole.specs.Lists.{tab}
use Rattle.whole.specs.Sums.{sum_below}
use Rattle.linear.specs.Gram.{dot, comb}
use Rattle.linear.specs.Elimination.{Grid, entry}

-- y over e meets every relation: in each coordinate the sum of coefficient × value is the constant Q i c.
abbrev pub Meets : (size n m : ℕ) (R Q : ℕ → ℕ → ℤ) (e : ℤ) (y : ℕ → ℕ → ℤ) → Type 0
Meets size n m R Q e y = (i : ℕ) → i < m → (c : ℕ) → c < size → dot n (R i) (λ s. y s c) ≡ e *ℤ Q i c

-- y over e is where base over d is, at each parameter that is not loose.
abbrev pub Agrees : (size n : ℕ) (v : ℕ → ℤ) (d : ℤ) (base : ℕ → ℕ → ℤ) (e : ℤ) (y : ℕ → ℕ → ℤ) → Type 0
Agrees size n v d base e y = (s : ℕ) → s < n → v s ≡ pos 0 → (c : ℕ) → c < size → d *ℤ y s c ≡ e *ℤ base s c

-- y over e and z over f are the same fractions.
abbrev pub Same : (size n : ℕ) (e : ℤ) (y : ℕ → ℕ → ℤ) (f : ℤ) (z : ℕ → ℕ → ℤ) → Type 0
Same size n e y f z = (s : ℕ) → s < n → (c : ℕ) → c < size → f *ℤ y s c ≡ e *ℤ z s c

-- The sum over s of w s × the squared distance between base over d and y over e, times (d e)².
abbrev pub cost : (size : ℕ) (inner : List ℤ → List ℤ → ℤ) (n : ℕ) (w : ℕ → ℤ) (d : ℤ) (base : ℕ → ℕ → ℤ) (e : ℤ) (y : ℕ → ℕ → ℤ) → ℤ
cost size inner n w d base e y = sum_below n (λ s. let gap = tab size (λ c. d *ℤ y s c -ℤ e *ℤ base s c) in w s *ℤ inner gap gap)

-- y over e meets every relation, agrees with base over d where nothing is loose, and every other placing that does so costs strictly more.
pub record NearestPlacing (size : ℕ) (inner : List ℤ → List ℤ → ℤ) (n m : ℕ) (w v : ℕ → ℤ) (R Q : ℕ → ℕ → ℤ) (d : ℤ) (base : ℕ → ℕ → ℤ) (e : ℤ) (y : ℕ → ℕ → ℤ) : Type 0 where
  pub meets : Meets size n m R Q e y
  pub agrees : Agrees size n v d base e y
  pub strictly : (f : ℤ) (z : ℕ → ℕ → ℤ) → Meets size n m R Q f z → Agrees size n v d base f z → ¬ (Same size n e y f z)
      → (f *ℤ f *ℤ cost size inner n w d base e y) <ℤ (e *ℤ e *ℤ cost size inner n w d base f z)

-- y over e with numerators and denominator multiplied by h is z over f.
abbrev pub Scaled : (size n : ℕ) (h e : ℤ) (y : ℕ → ℕ → ℤ) (f : ℤ) (z : ℕ → ℕ → ℤ) → Type 0
Scaled size n h e y f z = (h *ℤ e ≡ f) × ((s : ℕ) → s < n → (c : ℕ) → c < size → h *ℤ y s c ≡ z s c)

-- What relation i lacks at base over d, in coordinate c.
abbrev pub residual : (n : ℕ) (R Q : ℕ → ℕ → ℤ) (d : ℤ) (base : ℕ → ℕ → ℤ) → ℕ → ℕ → ℤ
residual n R Q d base i c = d *ℤ Q i c -ℤ dot n (R i) (λ s. base s c)

-- What row i of the table carries: its right half times the residuals r.
abbrev pub carried : (m : ℕ) (t : Grid) (r : ℕ → ℕ → ℤ) → ℕ → ℕ → ℤ
carried m t r i c = sum_below m (λ j. entry t i (m + j) *ℤ r j c)

-- The multipliers x over f for what the rows carry: p × x = f × g in a needed row with the diagonal number p. A spare row carries 0 and has the multiplier 0.
pub record Multipliers (size m : ℕ) (t : Grid) (g : ℕ → ℕ → ℤ) (f : ℤ) (x : ℕ → ℕ → ℤ) : Type 0 where
  pub needed : (i : ℕ) → i < m → entry t i i ≢ pos 0 → (c : ℕ) → c < size → entry t i i *ℤ x i c ≡ f *ℤ g i c
  pub spare : (i : ℕ) → i < m → entry t i i ≡ pos 0 → (c : ℕ) → c < size → (x i c ≡ pos 0) × (g i c ≡ pos 0)

-- The placing that the multipliers give, over f × d.
abbrev pub placed : (m : ℕ) (v : ℕ → ℤ) (R : ℕ → ℕ → ℤ) (f : ℤ) (base x : ℕ → ℕ → ℤ) → ℕ → ℕ → ℤ
placed m v R f base x s c = f *ℤ base s c +ℤ v s *ℤ comb m R (λ i. x i c) s

-- No weight and no v s is below 0, and weight × v s is κ at every loose parameter.
abbrev pub Weighted : (n : ℕ) (κ : ℤ) (w v : ℕ → ℤ) → Type 0
Weighted n κ w v = (s : ℕ) → s < n → (pos 0 ≤ℤ v s) × (pos 0 ≤ℤ w s) × ((v s ≡ pos 0) ⊎ (w s *ℤ v s ≡ κ))
