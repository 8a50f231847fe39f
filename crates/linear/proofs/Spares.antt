-- A row is spare exactly when its relation's loose coefficients are a rational combination of those of earlier relations.
use Rattle.std.proofs.Common.{◌≡◌, ℕ, ◌<◌, ◌≢◌, [], ◌∷◌, ℤ, pos, negsuc, ◌+ℤ◌, ◌*ℤ◌, ◌≤ℤ◌, sym, ap, ◌∙◌, inr, ⊎_elim, le_refl, arith}
use lib.IntN.{*ℤ-zero, zero-*ℤ, *ℤ_comm, ℤ_discrete}
use borrow.Author.Differences.{ints}
use Rattle.whole.specs.Sums.{sum_below}
use Rattle.whole.proofs.Integers.{not_both, cancel-0, *-zero}
use Rattle.whole.proofs.Ring.{v, k, ◌⊗◌, ring}
use Rattle.whole.proofs.Sums.{sum_ext, sum_zero, sum_scale, sum_swap, sum_single, sum_until}
use Rattle.linear.specs.Gram.{comb}
use Rattle.linear.specs.Elimination.{Grid, entry, right_half, start, steps}
use Rattle.linear.specs.Invariant.{Invariant}
use Rattle.linear.specs.Theorems.{Combined, Spares}
use Rattle.linear.proofs.Gram.{times_gram_is, form_sym}
use Rattle.linear.proofs.Elimination.{invariant}
use Rattle.linear.proofs.Meaning.{meaning_of}
use Rattle.linear.proofs.Solving.{spare-comb}

module _ (n m : ℕ) (w : ℕ → ℤ) (R : ℕ → ℕ → ℤ) (t : Grid) (I : Invariant n m w R m (entry t) (right_half m t)) (shares : (s : ℕ) → s < n → pos 0 ≤ℤ w s) where
  abbrev A : ℕ → ℕ → ℤ
  A i j = entry t i j

  abbrev B : ℕ → ℕ → ℤ
  B i j = right_half m t i j

  -- ---- a spare row gives the combination
  minus : (a b : ℤ) → a +ℤ b ≡ pos 0 → b ≡ negsuc 0 *ℤ a
  minus a b e = omega (arith, ints)

  to_combined : (i : ℕ) → i < m → A i i ≡ pos 0 → Combined n w R i
  to_combined i l e = (
    B i i,
    (λ j. negsuc 0 *ℤ B i j),
    not_both (B i i) (I.own i l (inr e)),
    λ s b d. ⊎_elim (λ z. absurd (d z)) (λ z. solved s z) (spare-comb n m w R t (meaning_of n m w R t I) shares i l e s b),
  )
    where
      later : (j : ℕ) → j < m → i < j → B i j ≡ pos 0
      later j b o = ⊎_elim (λ z. z) (λ s. absurd (clash s.1)) (I.support i l (inr e) j b (omega arith))
        where
          clash : j < i → ⊥
          clash h = omega arith

      solved : (s : ℕ) → comb m R (B i) s ≡ pos 0 → B i i *ℤ R i s ≡ sum_below i (λ j. negsuc 0 *ℤ B i j *ℤ R j s)
      solved s z =
          minus (sum_below i (λ j. B i j *ℤ R j s)) (B i i *ℤ R i s) (sym (sum_until m i (λ j. B i j *ℤ R j s) l (λ j c o. ap (λ x. x *ℤ R j s) (later j c o) ∙ zero-*ℤ (R j s))) ∙ z)
          ∙ sym (sum_ext i (λ j c. ring (B i j ∷ R j s ∷ []) (k (negsuc 0) ⊗ v 0 ⊗ v 1) (k (negsuc 0) ⊗ (v 0 ⊗ v 1)) tt) ∙ sum_scale i (negsuc 0) (λ j. B i j *ℤ R j s))

  -- ---- a combination makes the row spare
  -- before its own place, the left half of a row is 0
  before : (i : ℕ) → i < m → (j : ℕ) → j < i → A i j ≡ pos 0
  before i l j b = ⊎_elim at-spare (λ q. q.1 i l (omega arith)) (I.done j (omega arith))
    where
      j<m : j < m
      j<m = omega arith

      -- B j is then orthogonal to A i, and meets it at the place j alone
      at-spare : ((s : ℕ) → s < m → A j s ≡ pos 0) → A i j ≡ pos 0
      at-spare z = cancel-0 (B j j) (A i j) (I.own j j<m (inr (z j j<m)))
          (*ℤ_comm (B j j) (A i j)
          ∙ sym (sum_single m j j<m (λ s c d. ⊎_elim
          (λ e. ap (λ y. A i s *ℤ y) e ∙ *ℤ-zero (A i s))
          (λ p. ap (λ y. y *ℤ B j s) (⊎_elim (λ u. absurd (not_both (A s s) p.2 (u s c))) (λ q. q.1 i l (apart p.1)) (I.done s c)) ∙ zero-*ℤ (B j s))
          (I.support j j<m (inr (z j j<m)) s c d)))
          ∙ sum_ext m (λ s c. ap (λ y. y *ℤ B j s) (I.halves i l s c))
          ∙ form_sym n m w R (B i) (B j)
          ∙ sum_zero m (λ s c. ap (λ y. y *ℤ B i s) (sym (I.halves j j<m s c) ∙ z s c) ∙ zero-*ℤ (B i s)))
        where
          apart : {s : ℕ} → s < j → i ≢ s
          apart h = omega arith

  from_combined : (i : ℕ) → i < m → Combined n w R i → A i i ≡ pos 0
  from_combined i l (e, y, e≢0, h) = ⊎_elim (λ q. absurd (e≢0 q)) (λ q. q) (*-zero e (A i i)
      (ap (λ z. e *ℤ z) (I.halves i l i l ∙ times_gram_is n m w R (B i) i)
      ∙ sym (sum_scale n e (λ s. w s *ℤ (comb m R (B i) s *ℤ R i s)))
      ∙ sum_ext n (λ s b. spread s b (ℤ_discrete (w s) (pos 0)))
      ∙ sum_swap n i (λ s j. y j *ℤ (w s *ℤ (comb m R (B i) s *ℤ R j s)))
      ∙ sum_zero i (λ j b.
      sum_scale n (y j) (λ s. w s *ℤ (comb m R (B i) s *ℤ R j s))
      ∙ ap (λ z. y j *ℤ z) (sym (times_gram_is n m w R (B i) j) ∙ sym (I.halves i l j (omega arith)) ∙ before i l j b)
      ∙ *ℤ-zero (y j))))
    where
      spread : (s : ℕ) → s < n → Dec (w s ≡ pos 0) → e *ℤ (w s *ℤ (comb m R (B i) s *ℤ R i s)) ≡ sum_below i (λ j. y j *ℤ (w s *ℤ (comb m R (B i) s *ℤ R j s)))
      spread s b (yes q) =
          ap (λ z. e *ℤ (z *ℤ (comb m R (B i) s *ℤ R i s))) q ∙ ring (e ∷ (comb m R (B i) s *ℤ R i s) ∷ []) (v 0 ⊗ (k (pos 0) ⊗ v 1)) (k (pos 0)) tt
          ∙ sym (sum_zero i (λ j c. ap (λ z. y j *ℤ (z *ℤ (comb m R (B i) s *ℤ R j s))) q ∙ ring (y j ∷ (comb m R (B i) s *ℤ R j s) ∷ []) (v 0 ⊗ (k (pos 0) ⊗ v 1)) (k (pos 0)) tt))
      spread s b (no d) =
          ring (e ∷ w s ∷ comb m R (B i) s ∷ R i s ∷ []) (v 0 ⊗ (v 1 ⊗ (v 2 ⊗ v 3))) (v 1 ⊗ v 2 ⊗ (v 0 ⊗ v 3)) tt
          ∙ ap (λ z. w s *ℤ comb m R (B i) s *ℤ z) (h s b d)
          ∙ sym (sum_scale i (w s *ℤ comb m R (B i) s) (λ j. y j *ℤ R j s))
          ∙ sum_ext i (λ j c. ring (w s ∷ comb m R (B i) s ∷ y j ∷ R j s ∷ []) (v 0 ⊗ v 1 ⊗ (v 2 ⊗ v 3)) (v 2 ⊗ (v 0 ⊗ (v 1 ⊗ v 3))) tt)

pub spares : Spares
spares n m w R shares i l =
    let t = steps m m (start n m w R) in
    let I = invariant n m w R shares m (le_refl m) in
    (to_combined n m w R t I shares i l, from_combined n m w R t I shares i l)
