-- A pivot is never negative, and a row keeps being spare or needed to the end.
use Rattle.std.proofs.Common.{◌≡◌, ℕ, zero, suc, ◌<◌, ◌≤◌, Bool, true, false, cond, ◌⊎◌, ◌↔◌, ℤ, pos, ◌≤ℤ◌, ◌<ℤ◌, sym, refl, ap, ◌∙◌, subst, inl, inr, ⊎_elim, le_refl, arith}
use native.Mathlib.Decide.{ℕ_discrete}
use lib.IntN.{ℤ_discrete}
use Rattle.whole.specs.Lists.{tab}
use Rattle.whole.specs.Tests.{is_zero}
use Rattle.whole.proofs.Integers.{not_both, above-0}
use Rattle.linear.specs.Elimination.{Grid, entry, right_half, start, new_row, steps}
use Rattle.linear.specs.Invariant.{Invariant, Step}
use Rattle.linear.specs.Theorems.{Pivots, PivotsLast}
use Rattle.linear.proofs.Elimination.{invariant, pivot_above, step_is}
use Rattle.linear.proofs.Invariant.{diagonal-≥0, spare_row, spare', needed'}

module _ (n m : ℕ) (w : ℕ → ℤ) (R : ℕ → ℕ → ℤ) (shares : (s : ℕ) → s < n → pos 0 ≤ℤ w s) where
  -- the table before step r
  abbrev table : ℕ → Grid
  table r = steps m r (start n m w R)

  pivot : (r : ℕ) → r < m → (pos 0 ≤ℤ entry (table r) r r) × (entry (table r) r r ≡ pos 0 → (j : ℕ) → j < m → entry (table r) r j ≡ pos 0)
  pivot r l =
      let I = invariant n m w R shares r (omega arith) in
      (diagonal-≥0 n m w R r l (entry (table r)) (right_half m (table r)) I shares, spare_row n m w R r l (entry (table r)) (right_half m (table r)) I shares)

  -- row i, whose pivot was 0, is 0 in its left half in the table t; or both are above 0
  abbrev State : ℕ → Grid → Type 0
  State i t = ((entry (table i) i i ≡ pos 0) × ((j : ℕ) → j < m → entry t i j ≡ pos 0)) ⊎ ((pos 0 <ℤ entry (table i) i i) × (pos 0 <ℤ entry t i i))

  -- at its own step
  from : (i : ℕ) → i < m → State i (table i)
  from i l = by (ℤ_discrete (entry (table i) i i) (pos 0))
    where
      by : Dec (entry (table i) i i ≡ pos 0) → State i (table i)
      by (yes e) = inl (e, (pivot i l).1 e)
      by (no d) = let p = above-0 (entry (table i) i i) d (pivot i l).0 in inr (p, p)

  -- over a later step, or its own
  go_on : (i r : ℕ) → i < m → r < m → i ≤ r → State i (table r) → State i (table (suc r))
  go_on i r l b o S = by (is_zero (entry (table r) r r)) refl
    where
      I : Invariant n m w R r (entry (table r)) (right_half m (table r))
      I = invariant n m w R shares r (omega arith)

      pick : Dec (i ≡ r) → pos 0 <ℤ entry (table r) r r → Step m r (entry (table r)) (right_half m (table r)) (entry (tab m (new_row m r (table r)))) (right_half m (tab m (new_row m r (table r)))) → State i (table r)
          → State i (tab m (new_row m r (table r)))
      pick (yes q) p>0 T (inl s) = absurd (not_both (entry (table r) r r) p>0 (ap (λ (x : ℕ). entry (table r) x r) (sym q) ∙ s.1 r b))
      pick (yes q) p>0 T (inr s) = inr (
        s.0,
        subst (λ x. pos 0 <ℤ x) (ap (λ (x : ℕ). entry (table r) r x) (sym q) ∙ sym (T.same_A i l) ∙ ap (λ (x : ℕ). entry (tab m (new_row m r (table r))) x i) (sym q)) p>0,
      )
      pick (no d) p>0 T (inl s) = inl (s.0, spare' n m w R r b (entry (table r)) (right_half m (table r)) I (entry (tab m (new_row m r (table r)))) (right_half m (tab m (new_row m r (table r)))) T p>0 i l d s.1)
      pick (no d) p>0 T (inr s) = inr (s.0, needed' n m w R r b (entry (table r)) (right_half m (table r)) I (entry (tab m (new_row m r (table r)))) (right_half m (tab m (new_row m r (table r)))) T p>0 i l (omega arith) s.1)

      by : (x : Bool) → is_zero (entry (table r) r r) ≡ x → State i (cond x (table r) (tab m (new_row m r (table r))))
      by true e = S
      by false e = let p>0 = pivot_above n m w R shares r b (table r) I e in pick (ℕ_discrete i r) p>0 (step_is m r (table r) p>0 b) S

  until : (i r : ℕ) → i < m → r ≤ m → i ≤ r → State i (table r)
  until i zero l b o = subst (λ (r : ℕ). State i (table r)) (nought o) (from i l)
    where
      nought : i ≤ zero → i ≡ zero
      nought h = omega arith
  until i (suc r) l b o = by (ℕ_discrete i (suc r)) (λ h. until i r l (omega arith) h)
    where
      by : Dec (i ≡ suc r) → (i ≤ r → State i (table r)) → State i (table (suc r))
      by (yes q) ih = subst (λ (r : ℕ). State i (table r)) q (from i l)
      by (no d) ih = go_on i r l b (omega arith) (ih (omega arith))

  last : (i : ℕ) → i < m → (entry (table i) i i ≡ pos 0) ↔ (entry (table m) i i ≡ pos 0)
  last i l = ⊎_elim (λ s. ((λ e. s.1 i l), λ e. s.0)) (λ s. ((λ e. absurd (not_both (entry (table i) i i) s.0 e)), λ e. absurd (not_both (entry (table m) i i) s.1 e)))
      (until i m l (le_refl m) (omega arith))

pub pivots : Pivots
pivots n m w R shares k l = pivot n m w R shares k l

pub pivots_last : PivotsLast
pivots_last n m w R shares i l = last n m w R shares i l
