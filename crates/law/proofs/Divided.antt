-- Common divisors and multiples: what a pull divides by, and what its denominator is a multiple of.
use Rattle.std.proofs.Common.{◌≡◌, ℕ, zero, suc, ◌+◌, ◌*◌, ◌<◌, ◌≢◌, negsuc, Bool, true, false, cond, ◌⊎◌, List, [], ◌∷◌, length, get_or, ℤ, pos, ◌*ℤ◌, nat_abs, ◌<ℤ◌, sym, refl, ap, ◌∙◌, subst, inl, inr, ⊎_elim, true≢false, not-suc-le-zero, arith}
use Prim.Native.Nat.{◌∣◌}
use native.Mathlib.Decide.{ℕ_discrete}
use native.Mathlib.Nat.{dvd-zero, dvd_trans}
use lib.Signed.{quot_z}
use borrow.Author.Differences.{ints}
use Rattle.std.proofs.lemmas.List.{get_or_append_left, get_or-append-add, get_or_past}
use Rattle.std.proofs.lemmas.Bool.{cond_both, cases_lt}
use Rattle.whole.specs.Lists.{tab, at, coord}
use Rattle.whole.specs.Gcd.{gcd_all, lcm}
use Rattle.whole.proofs.Integers.{not_both}
use Rattle.whole.proofs.Lists.{get_or-tab, at-tab}
use Rattle.whole.proofs.Divisors.{gcd_all-divides, gcd_all-above, exact}
use Rattle.whole.proofs.Multiples.{lcm-left, lcm-right, lcm-above}
use Rattle.linear.specs.Elimination.{Grid}
use Rattle.rules.specs.Values.{Coords, grid}
use Rattle.rules.specs.Gripping.{is_needed}
use Rattle.rules.specs.Pulling.{joined, common}

pub coord-grid : (n size : ℕ) (f : ℕ → ℕ → ℤ) (s : ℕ) → s < n → (c : ℕ) → c < size → coord (grid n size f) s c ≡ f s c
coord-grid n size f s l c b = ap (λ (u : Coords). get_or u c (pos 0)) (get_or-tab n (λ s. tab size (f s)) [] s l) ∙ at-tab size (f s) c b

-- a coordinate of a list of values is 0, or stands in the joined list
pub joined_at : (us : List Coords) (s c : ℕ) → (coord us s c ≡ pos 0) ⊎ ((i : ℕ) × (at (joined us) i ≡ coord us s c))
joined_at [] s c = inl refl
joined_at (u ∷ us) zero c = ⊎_elim
    (λ l. inr (c, get_or_append_left u (joined us) (pos 0) c l))
    (λ l. inl (get_or_past u c (pos 0) l))
    (cases_lt c (length u))
joined_at (u ∷ us) (suc s) c = ⊎_elim inl (λ h. inr (length u + h.0, get_or-append-add u (joined us) h.0 (pos 0) ∙ h.1)) (joined_at us s c)

pub some_size : (a : ℤ) → a ≢ pos 0 → 0 < nat_abs a
some_size (pos zero) d = absurd (d refl)
some_size (pos (suc n)) d = omega arith
some_size (negsuc n) d = omega arith

pub above_zero : (l : ℕ) → 0 < l → pos 0 <ℤ pos l
above_zero l h = omega (arith, ints)

-- e and every coordinate are multiples of their divisor, which is above 0 where e is
module _ (e : ℤ) (us : List Coords) where
  abbrev pub h : ℕ
  h = gcd_all (e ∷ joined us)

  pub over-exact : pos h *ℤ quot_z e (pos h) ≡ e
  over-exact = exact h e (gcd_all-divides (e ∷ joined us) 0)

  pub coord-exact : (s c : ℕ) → pos h *ℤ quot_z (coord us s c) (pos h) ≡ coord us s c
  coord-exact s c = exact h (coord us s c) (⊎_elim
      (λ z. subst (λ (x : ℤ). h ∣ nat_abs x) (sym z) (dvd-zero h))
      (λ i. subst (λ (x : ℤ). h ∣ nat_abs x) i.1 (gcd_all-divides (e ∷ joined us) (suc i.0)))
      (joined_at us s c))

  pub h-above : pos 0 <ℤ e → pos 0 <ℤ pos h
  h-above l = above_zero h (gcd_all-above (e ∷ joined us) 0 (some_size e (not_both e l)))

-- ---- numbers above 0
pub factor-above : (g y b : ℕ) → g * y ≡ b → 0 < b → 0 < y
factor-above g zero b e l = absurd (none e)
  where
    none : g * zero ≡ b → ⊥
    none q = omega arith
factor-above g (suc y) b e l = omega arith

-- ℓ is above 0, and a multiple of each number of a needed row
module _ (t : Grid) (ps : List ℕ) where
  pub common-above : (k : ℕ) → ((i : ℕ) → i < k → is_needed t i ≡ true → 0 < get_or ps i 1) → 0 < common k t ps
  common-above zero h = omega arith
  common-above (suc k) h =
      let l = common-above k (λ i b. h i (omega arith)) in
      cond_both (is_needed t k) _ _ (λ (x : ℕ). 0 < x) (λ e. lcm-above (common k t ps) (get_or ps k 1) l (h k (omega arith) e)) (λ e. l)

  pub common-multiple : (k i : ℕ) → i < k → is_needed t i ≡ true → get_or ps i 1 ∣ common k t ps
  common-multiple zero i l e = absurd (not-suc-le-zero l)
  common-multiple (suc k) i l e = by (is_needed t k) refl (ℕ_discrete i k) (λ b. common-multiple k i b e)
    where
      by : (b : Bool) → is_needed t k ≡ b → Dec (i ≡ k) → (i < k → get_or ps i 1 ∣ common k t ps) → get_or ps i 1 ∣ cond b (lcm (common k t ps) (get_or ps k 1)) (common k t ps)
      by true f (yes q) ih = subst (λ (x : ℕ). get_or ps x 1 ∣ lcm (common k t ps) (get_or ps k 1)) (sym q) (lcm-right (common k t ps) (get_or ps k 1))
      by true f (no d) ih = dvd_trans (get_or ps i 1) (ih (omega arith)) (lcm-left (common k t ps) (get_or ps k 1))
      by false f (yes q) ih = absurd (true≢false (sym e ∙ ap (is_needed t) q ∙ f))
      by false f (no d) ih = ih (omega arith)
