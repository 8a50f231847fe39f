-- The steps on lists are those of the invariant, so that it holds after every step.
use Rattle.std.proofs.Common.{◌≡◌, ℕ, zero, suc, ◌+◌, ◌-◌, ◌<◌, ◌≤◌, Bool, true, false, cond, ◌||◌, eqb, ltb, ◌≢◌, List, [], ◌∷◌, map, get_or, ℤ, pos, negsuc, ◌-ℤ◌, ◌*ℤ◌, nat_abs, ◌≤ℤ◌, ◌<ℤ◌, sym, refl, ap, ◌∙◌, subst, inl, ⊎_elim, not-suc-le-zero, arith}
use Prim.Native.Nat.{◌∣◌}
use native.Mathlib.Decide.{ℕ_discrete}
use native.Mathlib.Nat.{zero-div, eq-zero_of_zero-dvd}
use lib.Signed.{quot_z}
use borrow.Author.Differences.{ints}
use Rattle.std.proofs.lemmas.Bool.{cond-true, cond-false, eq-eqb, ne_eqb, lt-ltb, le-ltb, or_left}
use Rattle.whole.specs.Lists.{tab, at}
use Rattle.whole.specs.Gcd.{gcd_all}
use Rattle.whole.specs.Tests.{is_zero}
use Rattle.whole.proofs.Integers.{one-*, above-0}
use Rattle.whole.proofs.Ring.{v, k, ◌⊖◌, ◌⊗◌, ring}
use Rattle.whole.proofs.Lists.{get_or-tab, at-tab, at_map}
use Rattle.whole.proofs.Sums.{sum_ext}
use Rattle.whole.proofs.Tests.{is_zero_true, is_zero_false}
use Rattle.whole.proofs.Divisors.{gcd_all-divides, exact}
use Rattle.linear.specs.Gram.{gram}
use Rattle.linear.specs.Elimination.{Grid, entry, right_half, unit, start, reduced, new_row, step, steps}
use Rattle.linear.specs.Invariant.{Invariant, Step}
use Rattle.linear.proofs.Invariant.{first, next_spare, next_needed, diagonal-≥0}

-- each number of a reduced row times a divisor above 0 is the number before
pub reduced_is : (xs : List ℤ) → (g : ℤ) × (pos 0 <ℤ g) × ((j : ℕ) → g *ℤ at (reduced xs) j ≡ at xs j)
reduced_is xs = by (gcd_all xs) (λ j. gcd_all-divides xs j)
  where
    by : (g : ℕ) → ((j : ℕ) → g ∣ nat_abs (at xs j)) → (d : ℤ) × (pos 0 <ℤ d) × ((j : ℕ) → d *ℤ at (map (λ x. quot_z x (pos g)) xs) j ≡ at xs j)
    by zero h = (pos 1, omega (arith, ints), λ j. one-* (at (map (λ x. quot_z x (pos 0)) xs) j) ∙ at_map (λ x. quot_z x (pos 0)) xs j refl ∙ none (at xs j) (eq-zero_of_zero-dvd (h j)))
      where
        none : (a : ℤ) → nat_abs a ≡ 0 → quot_z a (pos 0) ≡ a
        none (pos zero) e = refl
        none (pos (suc n)) e = absurd (omega arith)
        none (negsuc n) e = absurd (omega arith)
    by (suc g) h = (pos (suc g), omega (arith, ints), λ j. ap (λ z. pos (suc g) *ℤ z) (at_map (λ x. quot_z x (pos (suc g))) xs j (ap pos (zero-div (suc g)))) ∙ exact (suc g) (at xs j) (h j))

-- ---- a step with a pivot above 0
module _ (m r : ℕ) (t : Grid) (p>0 : pos 0 <ℤ entry t r r) where
  abbrev mixed : ℕ → ℕ → ℤ
  mixed i j = entry t r r *ℤ entry t i j -ℤ entry t i r *ℤ entry t r j

  -- each number of a row's new row times a divisor above 0
  changed : (i : ℕ) → i ≢ r → (g : ℤ) × (pos 0 <ℤ g) × ((j : ℕ) → j < m + m → g *ℤ at (new_row m r t i) j ≡ mixed i j)
  changed i d = by (is_zero (entry t i r)) refl
    where
      other : (eqb i r || is_zero (entry t i r)) ≡ is_zero (entry t i r)
      other = ap (λ (x : Bool). x || is_zero (entry t i r)) (ne_eqb i r d)

      by : (b : Bool) → is_zero (entry t i r) ≡ b → (g : ℤ) × (pos 0 <ℤ g) × ((j : ℕ) → j < m + m → g *ℤ at (new_row m r t i) j ≡ mixed i j)
      by true e = (
        entry t r r,
        p>0,
        λ j l.
            ap (λ (x : Bool). entry t r r *ℤ at (cond x (get_or t i []) (reduced (tab (m + m) (mixed i)))) j) (other ∙ e)
            ∙ ring (entry t r r ∷ entry t i j ∷ entry t r j ∷ []) (v 0 ⊗ v 1) (v 0 ⊗ v 1 ⊖ k (pos 0) ⊗ v 2) tt
            ∙ ap (λ z. entry t r r *ℤ entry t i j -ℤ z *ℤ entry t r j) (sym (is_zero_true (entry t i r) e)),
      )
      by false e = let h = reduced_is (tab (m + m) (mixed i)) in (
        h.0,
        h.1,
        λ j l.
            ap (λ (x : Bool). h.0 *ℤ at (cond x (get_or t i []) (reduced (tab (m + m) (mixed i)))) j) (other ∙ e)
            ∙ h.2 j ∙ at-tab (m + m) (mixed i) j l,
      )

  same_row : new_row m r t r ≡ get_or t r []
  same_row = cond-true _ _ _ (or_left (eqb r r) (is_zero (entry t r r)) (eq-eqb r r refl))

  abbrev pub new : Grid
  new = tab m (new_row m r t)

  entry_new : (i : ℕ) → i < m → (j : ℕ) → entry new i j ≡ at (new_row m r t i) j
  entry_new i l j = ap (λ z. at z j) (get_or-tab m (new_row m r t) [] i l)

  -- the divisor of each row, 1 for row r itself
  divide : (i : ℕ) → Dec (i ≡ r) → (g : ℤ) × (i ≢ r → (pos 0 <ℤ g) × ((j : ℕ) → j < m + m → g *ℤ at (new_row m r t i) j ≡ mixed i j))
  divide i (yes e) = (pos 1, λ d. absurd (d e))
  divide i (no d) = let c = changed i d in (c.0, λ u. (c.1, c.2))

  pub step_is : r < m → Step m r (entry t) (right_half m t) (entry new) (right_half m new)
  step_is r<m = record {
    same_A = λ j b. entry_new r r<m j ∙ ap (λ z. at z j) same_row;
    same_B = λ j b. entry_new r r<m (m + j) ∙ ap (λ z. at z (m + j)) same_row;
    divisor = λ i. (divide i (ℕ_discrete i r)).0;
    above = λ i l d. ((divide i (ℕ_discrete i r)).1 d).0;
    new_A = λ i l d j b. ap (λ z. (divide i (ℕ_discrete i r)).0 *ℤ z) (entry_new i l j) ∙ ((divide i (ℕ_discrete i r)).1 d).1 j (omega arith);
    new_B = λ i l d j b. ap (λ z. (divide i (ℕ_discrete i r)).0 *ℤ z) (entry_new i l (m + j)) ∙ ((divide i (ℕ_discrete i r)).1 d).1 (m + j) (omega arith);
  }

module _ (n m : ℕ) (w : ℕ → ℤ) (R : ℕ → ℕ → ℤ) where
  -- ---- the first table
  abbrev number : ℕ → ℕ → ℤ
  number i j = cond (ltb j m) (gram n w R i j) (unit i (j - m))

  start-entry : (i : ℕ) → i < m → (j : ℕ) → j < m + m → entry (start n m w R) i j ≡ number i j
  start-entry i l j b = ap (λ z. at z j) (get_or-tab m (λ i. tab (m + m) (number i)) [] i l) ∙ at-tab (m + m) (number i) j b

  start_left : (i : ℕ) → i < m → (j : ℕ) → j < m → entry (start n m w R) i j ≡ gram n w R i j
  start_left i l j b = start-entry i l j (omega arith) ∙ cond-true _ _ _ (lt-ltb j m b)

  start_right : (i : ℕ) → i < m → (j : ℕ) → j < m → right_half m (start n m w R) i j ≡ unit i j
  start_right i l j b = start-entry i l (m + j) (omega arith) ∙ cond-false _ _ _ (le-ltb (m + j) m past) ∙ ap (unit i) back
    where
      past : m ≤ m + j
      past = omega arith

      back : m + j - m ≡ j
      back = omega arith

  start_inv : Invariant n m w R 0 (entry (start n m w R)) (right_half m (start n m w R))
  start_inv = let I = first n m w R in record {
    halves = λ i l j b. start_left i l j b ∙ I.halves i l j b ∙ sum_ext m (λ c u. ap (λ z. z *ℤ gram n w R c j) (sym (start_right i l c u)));
    done = λ j b. absurd (not-suc-le-zero b);
    own = λ i l h. subst (λ z. pos 0 <ℤ z) (sym (start_right i l i l)) (I.own i l (inl (omega arith)));
    support = λ i l h j b d. ⊎_elim (λ e. inl (start_right i l j b ∙ e)) (λ s. absurd (not-suc-le-zero s.0)) (I.support i l (inl (omega arith)) j b d);
    kernel = λ c h. I.kernel c (λ i l. sum_ext m (λ j b. ap (λ z. z *ℤ c j) (sym (start_right i l j b))) ∙ h i l);
  }

  module _ (shares : (s : ℕ) → s < n → pos 0 ≤ℤ w s) where
    -- a pivot that is not 0 is above 0
    pub pivot_above : (r : ℕ) → r < m → (t : Grid) → Invariant n m w R r (entry t) (right_half m t) → is_zero (entry t r r) ≡ false → pos 0 <ℤ entry t r r
    pivot_above r r<m t I e = above-0 (entry t r r) (is_zero_false (entry t r r) e) (diagonal-≥0 n m w R r r<m (entry t) (right_half m t) I shares)

    one-step : (r : ℕ) → r < m → (t : Grid) → Invariant n m w R r (entry t) (right_half m t) → Invariant n m w R (suc r) (entry (step m r t)) (right_half m (step m r t))
    one-step r r<m t I = by (is_zero (entry t r r)) refl
      where
        after : Bool → Grid
        after b = cond b t (tab m (new_row m r t))

        by : (b : Bool) → is_zero (entry t r r) ≡ b → Invariant n m w R (suc r) (entry (after b)) (right_half m (after b))
        by true e = next_spare n m w R r r<m (entry t) (right_half m t) I shares (is_zero_true (entry t r r) e)
        by false e =
            let p>0 = pivot_above r r<m t I e in
            next_needed n m w R r r<m (entry t) (right_half m t) I (entry (tab m (new_row m r t))) (right_half m (tab m (new_row m r t))) (step_is m r t p>0 r<m) p>0

    -- the invariant holds after every step
    pub invariant : (r : ℕ) → r ≤ m → Invariant n m w R r (entry (steps m r (start n m w R))) (right_half m (steps m r (start n m w R)))
    invariant zero h = start_inv
    invariant (suc r) h = one-step r h (steps m r (start n m w R)) (invariant r (omega arith))
