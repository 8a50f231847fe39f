-- The multipliers of a pull solve the table's rows.
use Rattle.std.proofs.Common.{◌≡◌, ℕ, suc, ◌/◌, ◌<◌, true, false, cond, not, ◌&&◌, ◌≢◌, List, [], ◌∷◌, get_or, ℤ, pos, ◌*ℤ◌, nat_abs, ◌≤ℤ◌, ◌<ℤ◌, sym, ap, ◌∙◌, subst, ⊎_elim, true≢false}
use Prim.Native.Nat.{◌∣◌}
use native.Mathlib.Nat.{mul-div_cancel'}
use lib.Signed.{quot_z}
use Rattle.std.proofs.lemmas.Bool.{and_cases, and_parts, not-true, not-false}
use Rattle.whole.specs.Lists.{coord}
use Rattle.whole.specs.Tests.{any, nonzero}
use Rattle.whole.specs.Gcd.{gcd_all}
use Rattle.whole.proofs.Lists.{get_or-tab}
use Rattle.whole.proofs.Sizes.{size_of}
use Rattle.whole.proofs.Tests.{any_false, any_true, nonzero_false, nonzero_true, is_nonzero}
use Rattle.whole.proofs.Divisors.{gcd_all-divides}
use Rattle.whole.proofs.Multiples.{multiplier}
use Rattle.linear.specs.Elimination.{Grid, entry}
use Rattle.linear.specs.Placings.{Multipliers}
use Rattle.rules.specs.Values.{Coords}
use Rattle.rules.specs.Gripping.{is_needed}
use Rattle.rules.specs.Pulling.{contradicts, divisors, lowered, lowered_sums, common, multipliers}
use Rattle.law.proofs.Divided.{coord-grid, some_size, above_zero, factor-above, common-above, common-multiple}

module _ (size m : ℕ) (t : Grid) (gs : List Coords) where
  abbrev pub hs : List ℕ
  hs = divisors m t gs

  abbrev pub ps : List ℕ
  ps = lowered m t hs

  abbrev pub l : ℕ
  l = common m t ps

  abbrev pub xs : List Coords
  xs = multipliers size m t l ps (lowered_sums size m gs hs)

  h_is : (i : ℕ) → i < m → get_or hs i 1 ≡ gcd_all (entry t i i ∷ get_or gs i [])
  h_is i u = get_or-tab m (λ i. gcd_all (entry t i i ∷ get_or gs i [])) 1 i u

  p_is : (i : ℕ) → i < m → get_or ps i 1 ≡ nat_abs (entry t i i) / get_or hs i 1
  p_is i u = get_or-tab m (λ i. nat_abs (entry t i i) / get_or hs i 1) 1 i u

  divides_p : (i : ℕ) → i < m → get_or hs i 1 ∣ nat_abs (entry t i i)
  divides_p i u = subst (λ (h : ℕ). h ∣ nat_abs (entry t i i)) (sym (h_is i u)) (gcd_all-divides (entry t i i ∷ get_or gs i []) 0)

  divides_g : (i : ℕ) → i < m → (c : ℕ) → get_or hs i 1 ∣ nat_abs (coord gs i c)
  divides_g i u c = subst (λ (h : ℕ). h ∣ nat_abs (coord gs i c)) (sym (h_is i u)) (gcd_all-divides (entry t i i ∷ get_or gs i []) (suc c))

  p_above : (i : ℕ) → i < m → is_needed t i ≡ true → 0 < get_or ps i 1
  p_above i u e = subst (λ (x : ℕ). 0 < x) (sym (p_is i u))
      (factor-above (get_or hs i 1) (nat_abs (entry t i i) / get_or hs i 1) (nat_abs (entry t i i)) (mul-div_cancel' (get_or hs i 1) (divides_p i u)) (some_size (entry t i i) (nonzero_true (entry t i i) e)))

  pub l_above : pos 0 <ℤ pos l
  l_above = above_zero l (common-above t ps m p_above)

  x_is : (i : ℕ) → i < m → (c : ℕ) → c < size → coord xs i c ≡ cond (is_needed t i) (pos (l / get_or ps i 1) *ℤ quot_z (coord gs i c) (pos (get_or hs i 1))) (pos 0)
  x_is i u c b = coord-grid m size (λ i c. cond (is_needed t i) (pos (l / get_or ps i 1) *ℤ coord (lowered_sums size m gs hs) i c) (pos 0)) i u c b
      ∙ ap (λ y. cond (is_needed t i) (pos (l / get_or ps i 1) *ℤ y) (pos 0)) (coord-grid m size (λ i c. quot_z (coord gs i c) (pos (get_or hs i 1))) i u c b)

  x_solves : (i : ℕ) → i < m → pos 0 ≤ℤ entry t i i → entry t i i ≢ pos 0 → (c : ℕ) → c < size → entry t i i *ℤ coord xs i c ≡ pos l *ℤ coord gs i c
  x_solves i u h d c b =
      (λ r. sym (size_of (entry t i i) h) r *ℤ (x_is i u c b ∙ ap (λ y. cond y (pos (l / get_or ps i 1) *ℤ quot_z (coord gs i c) (pos (get_or hs i 1))) (pos 0)) (is_nonzero (entry t i i) d)
      ∙ ap (λ (y : ℕ). pos (l / y) *ℤ quot_z (coord gs i c) (pos (get_or hs i 1))) (p_is i u)) r)
      ∙ multiplier (nat_abs (entry t i i)) (get_or hs i 1) l (coord gs i c) (divides_p i u) (divides_g i u c)
      (subst (λ (y : ℕ). y ∣ l) (p_is i u) (common-multiple t ps m i u (is_nonzero (entry t i i) d)))

  x_spare : (i : ℕ) → i < m → entry t i i ≡ pos 0 → (c : ℕ) → c < size → coord xs i c ≡ pos 0
  x_spare i u e c b = x_is i u c b ∙ ap (λ y. cond (nonzero y) (pos (l / get_or ps i 1) *ℤ quot_z (coord gs i c) (pos (get_or hs i 1))) (pos 0)) e

  -- where no spare row contradicts, each carries 0
  quiet : contradicts size m t gs ≡ false → (i : ℕ) → i < m → entry t i i ≡ pos 0 → (c : ℕ) → c < size → coord gs i c ≡ pos 0
  quiet e i u z c b = ⊎_elim
      (λ h. absurd (true≢false (sym (not-false (is_needed t i) h) ∙ ap nonzero z)))
      (λ h. nonzero_false (coord gs i c) (any_false size (λ c. nonzero (coord gs i c)) h c b))
      (and_cases (not (is_needed t i)) (any size (λ c. nonzero (coord gs i c))) (any_false m (λ i. not (is_needed t i) && any size (λ c. nonzero (coord gs i c))) e i u))

  -- where one does, a spare row carries something else
  pub loud : contradicts size m t gs ≡ true → (i : ℕ) × (i < m) × (entry t i i ≡ pos 0) × ((c : ℕ) × (c < size) × (coord gs i c ≢ pos 0))
  loud e =
      let a = any_true m (λ i. not (is_needed t i) && any size (λ c. nonzero (coord gs i c))) e in
      let b = and_parts (not (is_needed t a.0)) (any size (λ c. nonzero (coord gs a.0 c))) a.2 in
      let r = any_true size (λ c. nonzero (coord gs a.0 c)) b.1 in
      (a.0, a.1, nonzero_false (entry t a.0 a.0) (not-true (is_needed t a.0) b.0), (r.0, r.1, nonzero_true (coord gs a.0 r.0) r.2))

  -- the multipliers over ℓ, for any g with the coordinates of gs
  pub solved : ((i : ℕ) → i < m → pos 0 ≤ℤ entry t i i) → contradicts size m t gs ≡ false → (g : ℕ → ℕ → ℤ) → ((i : ℕ) → i < m → (c : ℕ) → c < size → coord gs i c ≡ g i c)
      → Multipliers size m t g (pos l) (λ i c. coord xs i c)
  solved diagonal e g same = record {
    needed = λ i u d c b. x_solves i u (diagonal i u) d c b ∙ ap (λ (z : ℤ). pos l *ℤ z) (same i u c b);
    spare = λ i u z c b. (x_spare i u z c b, sym (same i u c b) ∙ quiet e i u z c b);
  }
