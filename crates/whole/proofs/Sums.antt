-- Laws of sums over the indices below a bound.
use Rattle.std.proofs.Common.{◌≡◌, ℕ, zero, suc, ◌+◌, ◌<◌, ◌≢◌, ◌⊎◌, ℤ, pos, ◌+ℤ◌, ◌*ℤ◌, ◌≤ℤ◌, sym, refl, ap, ◌∙◌, inl, inr, ⊎_elim, not-suc-le-zero, add-one, arith}
use native.Mathlib.Decide.{ℕ_discrete}
use lib.IntN.{*ℤ-zero, *ℤ_comm, +ℤ_idl, +ℤ_idr}
use lib.Signed.{≤ℤ_refl}
use Rattle.whole.specs.Sums.{sum_below}
use Rattle.whole.proofs.Integers.{*-+, +-swap, +-≥0, +-zero, square-≥0, *-≥0, *-zero}

-- equal terms, equal sums
pub sum_ext : (n : ℕ) {f g : ℕ → ℤ} → ((i : ℕ) → i < n → f i ≡ g i) → sum_below n f ≡ sum_below n g
unfolding sum_below
sum_ext zero h = refl
sum_ext (suc n) h = λ t. sum_ext n (λ i l. h i (omega arith)) t +ℤ h n (omega arith) t

pub sum_more : (n : ℕ) (f : ℕ → ℤ) → sum_below (n + 1) f ≡ sum_below n f +ℤ f n
unfolding sum_below
sum_more n f = ap (λ (k : ℕ). sum_below k f) (add-one n)

pub sum_zero : (n : ℕ) {f : ℕ → ℤ} → ((i : ℕ) → i < n → f i ≡ pos 0) → sum_below n f ≡ pos 0
unfolding sum_below
sum_zero zero h = refl
sum_zero (suc n) h = λ t. sum_zero n (λ i l. h i (omega arith)) t +ℤ h n (omega arith) t

pub sum_add : (n : ℕ) (f g : ℕ → ℤ) → sum_below n (λ i. f i +ℤ g i) ≡ sum_below n f +ℤ sum_below n g
unfolding sum_below
sum_add zero f g = refl
sum_add (suc n) f g = ap (λ z. z +ℤ (f n +ℤ g n)) (sum_add n f g) ∙ +-swap (sum_below n f) (sum_below n g) (f n) (g n)

pub sum_scale : (n : ℕ) (c : ℤ) (f : ℕ → ℤ) → sum_below n (λ i. c *ℤ f i) ≡ c *ℤ sum_below n f
unfolding sum_below
sum_scale zero c f = sym (*ℤ-zero c)
sum_scale (suc n) c f = ap (λ z. z +ℤ c *ℤ f n) (sum_scale n c f) ∙ sym (*-+ c (sum_below n f) (f n))

pub sum_scale_r : (n : ℕ) (c : ℤ) (f : ℕ → ℤ) → sum_below n (λ i. f i *ℤ c) ≡ sum_below n f *ℤ c
sum_scale_r n c f = sum_ext n (λ i l. *ℤ_comm (f i) c) ∙ sum_scale n c f ∙ *ℤ_comm c (sum_below n f)

-- two sums change places
pub sum_swap : (n m : ℕ) (f : ℕ → ℕ → ℤ) → sum_below n (λ i. sum_below m (λ j. f i j)) ≡ sum_below m (λ j. sum_below n (λ i. f i j))
unfolding sum_below
sum_swap zero m f = sym (sum_zero m (λ j l. refl))
sum_swap (suc n) m f = ap (λ z. z +ℤ sum_below m (f n)) (sum_swap n m f) ∙ sym (sum_add m (λ j. sum_below n (λ i. f i j)) (f n))

-- all terms but one are 0
pub sum_single : (n k : ℕ) {f : ℕ → ℤ} → k < n → ((i : ℕ) → i < n → i ≢ k → f i ≡ pos 0) → sum_below n f ≡ f k
unfolding sum_below
sum_single zero k l h = absurd (not-suc-le-zero l)
sum_single (suc n) k {f} l h = by (ℕ_discrete k n) (λ b c. sum_single n k {f = f} b c)
  where
    by : Dec (k ≡ n) → (k < n → ((i : ℕ) → i < n → i ≢ k → f i ≡ pos 0) → sum_below n f ≡ f k) → sum_below n f +ℤ f n ≡ f k
    by (yes e) ih = (λ t. sum_zero n (λ i b. h i (omega arith) (omega arith)) t +ℤ f n) ∙ +ℤ_idl (f n) ∙ ap f (sym e)
    by (no d) ih = (λ t. ih (omega arith) (λ i b. h i (omega arith)) t +ℤ h n (omega arith) (omega arith) t) ∙ +ℤ_idr (f k)

-- the terms past the i-th are 0
pub sum_until : (n i : ℕ) (f : ℕ → ℤ) → i < n → ((j : ℕ) → j < n → i < j → f j ≡ pos 0) → sum_below n f ≡ sum_below i f +ℤ f i
unfolding sum_below
sum_until zero i f l h = absurd (not-suc-le-zero l)
sum_until (suc n) i f l h = by (ℕ_discrete i n) (λ b. sum_until n i f b (λ j c d. h j (omega arith) d))
  where
    by : Dec (i ≡ n) → (i < n → sum_below n f ≡ sum_below i f +ℤ f i) → sum_below n f +ℤ f n ≡ sum_below i f +ℤ f i
    by (yes e) ih = λ t. sum_below (sym e t) f +ℤ f (sym e t)
    by (no d) ih = (λ t. ih (omega arith) t +ℤ h n (omega arith) (omega arith) t) ∙ +ℤ_idr (sum_below i f +ℤ f i)

-- ---- the order
pub sum-≥0 : (n : ℕ) {f : ℕ → ℤ} → ((i : ℕ) → i < n → pos 0 ≤ℤ f i) → pos 0 ≤ℤ sum_below n f
unfolding sum_below
sum-≥0 zero h = ≤ℤ_refl (pos 0)
sum-≥0 (suc n) {f} h = +-≥0 (sum_below n f) (f n) (sum-≥0 n (λ i l. h i (omega arith))) (h n (omega arith))

-- a sum of numbers not below 0 that is 0 has no other term
pub sum_all-0 : (n : ℕ) {f : ℕ → ℤ} → ((i : ℕ) → i < n → pos 0 ≤ℤ f i) → sum_below n f ≡ pos 0 → (i : ℕ) → i < n → f i ≡ pos 0
unfolding sum_below
sum_all-0 zero h e i l = absurd (not-suc-le-zero l)
sum_all-0 (suc n) {f} h e i l = by (ℕ_discrete i n) (λ b. sum_all-0 n {f = f} (λ j c. h j (omega arith)) parts.0 i b)
  where
    parts : (sum_below n f ≡ pos 0) × (f n ≡ pos 0)
    parts = +-zero (sum_below n f) (f n) (sum-≥0 n (λ j b. h j (omega arith))) (h n (omega arith)) e

    by : Dec (i ≡ n) → (i < n → f i ≡ pos 0) → f i ≡ pos 0
    by (yes q) ih = ap f q ∙ parts.1
    by (no d) ih = ih (omega arith)

-- a sum of weighted squares is not below 0; where it is 0, each term is
pub squares-≥0 : (n : ℕ) (w x : ℕ → ℤ) → ((i : ℕ) → i < n → pos 0 ≤ℤ w i) → pos 0 ≤ℤ sum_below n (λ i. w i *ℤ (x i *ℤ x i))
squares-≥0 n w x h = sum-≥0 n (λ i l. *-≥0 (w i) (x i *ℤ x i) (h i l) (square-≥0 (x i)))

pub squares-0 : (n : ℕ) (w x : ℕ → ℤ) → ((i : ℕ) → i < n → pos 0 ≤ℤ w i) → sum_below n (λ i. w i *ℤ (x i *ℤ x i)) ≡ pos 0 → (i : ℕ) → i < n → (w i ≡ pos 0) ⊎ (x i ≡ pos 0)
squares-0 n w x h e i l =
    ⊎_elim inl (λ q. inr (⊎_elim (λ z. z) (λ z. z) (*-zero (x i) (x i) q)))
    (*-zero (w i) (x i *ℤ x i) (sum_all-0 n (λ j b. *-≥0 (w j) (x j *ℤ x j) (h j b) (square-≥0 (x j))) e i l))
