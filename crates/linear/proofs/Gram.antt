-- Laws of dot products and of the weighted Gram matrix, and why a pivot is never negative.
use Rattle.std.proofs.Common.{◌≡◌, ℕ, ◌<◌, ◌≢◌, ◌⊎◌, [], ◌∷◌, ℤ, pos, ◌+ℤ◌, ◌-ℤ◌, ◌*ℤ◌, ◌≤ℤ◌, ◌<ℤ◌, sym, ap, ◌∙◌, subst, ⊎_elim}
use lib.IntN.{*ℤ-zero, zero-*ℤ, *ℤ_comm}
use Rattle.whole.specs.Sums.{sum_below}
use Rattle.whole.proofs.Integers.{≥0-by}
use Rattle.whole.proofs.Ring.{v, k, ◌⊕◌, ◌⊖◌, ◌⊗◌, ring}
use Rattle.whole.proofs.Sums.{sum_ext, sum_zero, sum_add, sum_scale, sum_scale_r, sum_swap, sum_single, squares-≥0, squares-0}
use Rattle.linear.specs.Gram.{dot, comb, gram, times_gram}

pub dot_sym : (n : ℕ) (x y : ℕ → ℤ) → dot n x y ≡ dot n y x
dot_sym n x y = sum_ext n (λ i l. *ℤ_comm (x i) (y i))

pub dot_scale : (n : ℕ) (c : ℤ) (x y : ℕ → ℤ) → dot n (λ i. c *ℤ x i) y ≡ c *ℤ dot n x y
dot_scale n c x y = sum_ext n (λ i l. ring (c ∷ x i ∷ y i ∷ []) (v 0 ⊗ v 1 ⊗ v 2) (v 0 ⊗ (v 1 ⊗ v 2)) tt) ∙ sum_scale n c (λ i. x i *ℤ y i)

-- p x - q y in the first place, as the elimination makes it
pub dot-step : (n : ℕ) (p q : ℤ) (x y z : ℕ → ℤ) → dot n (λ i. p *ℤ x i -ℤ q *ℤ y i) z ≡ p *ℤ dot n x z -ℤ q *ℤ dot n y z
dot-step n p q x y z =
    sum_ext n (λ i l. ring (p ∷ x i ∷ q ∷ y i ∷ z i ∷ []) ((v 0 ⊗ v 1 ⊖ v 2 ⊗ v 3) ⊗ v 4) (v 0 ⊗ (v 1 ⊗ v 4) ⊕ (k (pos 0) ⊖ v 2) ⊗ (v 3 ⊗ v 4)) tt)
    ∙ sum_add n (λ i. p *ℤ (x i *ℤ z i)) (λ i. (pos 0 -ℤ q) *ℤ (y i *ℤ z i))
    ∙ (λ t. sum_scale n p (λ i. x i *ℤ z i) t +ℤ sum_scale n (pos 0 -ℤ q) (λ i. y i *ℤ z i) t)
    ∙ ring (p ∷ dot n x z ∷ q ∷ dot n y z ∷ []) (v 0 ⊗ v 1 ⊕ (k (pos 0) ⊖ v 2) ⊗ v 3) (v 0 ⊗ v 1 ⊖ v 2 ⊗ v 3) tt

-- p x - q y in the second place
pub dot-step-r : (n : ℕ) (p q : ℤ) (z x y : ℕ → ℤ) → dot n z (λ i. p *ℤ x i -ℤ q *ℤ y i) ≡ p *ℤ dot n z x -ℤ q *ℤ dot n z y
dot-step-r n p q z x y = dot_sym n z (λ i. p *ℤ x i -ℤ q *ℤ y i) ∙ dot-step n p q x y z ∙ (λ t. p *ℤ dot_sym n x z t -ℤ q *ℤ dot_sym n y z t)

module _ (n m : ℕ) (w : ℕ → ℤ) (R : ℕ → ℕ → ℤ) where
  pub gram_sym : (i j : ℕ) → gram n w R i j ≡ gram n w R j i
  gram_sym i j = sum_ext n (λ s l. ap (λ z. w s *ℤ z) (*ℤ_comm (R i s) (R j s)))

  -- (x N) j is the weighted product of the combination with row j
  pub times_gram_is : (x : ℕ → ℤ) (j : ℕ) → times_gram n m w R x j ≡ sum_below n (λ s. w s *ℤ (comb m R x s *ℤ R j s))
  times_gram_is x j =
      sum_ext m (λ i l. sym (sum_scale n (x i) (λ s. w s *ℤ (R i s *ℤ R j s))))
      ∙ sum_swap m n (λ i s. x i *ℤ (w s *ℤ (R i s *ℤ R j s)))
      ∙ sum_ext n (λ s l.
      sum_ext m (λ i b. ring (x i ∷ w s ∷ R i s ∷ R j s ∷ []) (v 0 ⊗ (v 1 ⊗ (v 2 ⊗ v 3))) (v 0 ⊗ v 2 ⊗ (v 1 ⊗ v 3)) tt)
      ∙ sum_scale_r m (w s *ℤ R j s) (λ i. x i *ℤ R i s)
      ∙ ring (comb m R x s ∷ w s ∷ R j s ∷ []) (v 0 ⊗ (v 1 ⊗ v 2)) (v 1 ⊗ (v 0 ⊗ v 2)) tt)

  -- x N y is the weighted product of the two combinations
  form_is : (x y : ℕ → ℤ) → dot m (times_gram n m w R x) y ≡ sum_below n (λ s. w s *ℤ (comb m R x s *ℤ comb m R y s))
  form_is x y =
      sum_ext m (λ j l. ap (λ z. z *ℤ y j) (times_gram_is x j) ∙ sym (sum_scale_r n (y j) (λ s. w s *ℤ (comb m R x s *ℤ R j s))))
      ∙ sum_swap m n (λ j s. w s *ℤ (comb m R x s *ℤ R j s) *ℤ y j)
      ∙ sum_ext n (λ s l.
      sum_ext m (λ j b. ring (w s ∷ comb m R x s ∷ R j s ∷ y j ∷ []) (v 0 ⊗ (v 1 ⊗ v 2) ⊗ v 3) (v 0 ⊗ v 1 ⊗ (v 3 ⊗ v 2)) tt)
      ∙ sum_scale m (w s *ℤ comb m R x s) (λ j. y j *ℤ R j s)
      ∙ ring (w s ∷ comb m R x s ∷ comb m R y s ∷ []) (v 0 ⊗ v 1 ⊗ v 2) (v 0 ⊗ (v 1 ⊗ v 2)) tt)

  -- x N y is y N x
  pub form_sym : (x y : ℕ → ℤ) → dot m (times_gram n m w R x) y ≡ dot m (times_gram n m w R y) x
  form_sym x y = form_is x y ∙ sum_ext n (λ s l. ap (λ z. w s *ℤ z) (*ℤ_comm (comb m R x s) (comb m R y s))) ∙ sym (form_is y x)

  -- x N x, a sum of weighted squares
  unfoldable pub energy : (ℕ → ℤ) → ℤ
  energy x = sum_below n (λ s. w s *ℤ (comb m R x s *ℤ comb m R x s))

  pub energy_is : (x : ℕ → ℤ) → dot m (times_gram n m w R x) x ≡ energy x
  unfolding energy
  energy_is x = form_is x x

  module _ (shares : (s : ℕ) → s < n → pos 0 ≤ℤ w s) where
    pub energy-≥0 : (x : ℕ → ℤ) → pos 0 ≤ℤ energy x
    unfolding energy
    energy-≥0 x = squares-≥0 n w (comb m R x) shares

    -- no energy: the combination is 0 in every loose column
    pub energy-0 : (x : ℕ → ℤ) → energy x ≡ pos 0 → (s : ℕ) → s < n → (w s ≡ pos 0) ⊎ (comb m R x s ≡ pos 0)
    unfolding energy
    energy-0 x e s l = squares-0 n w (comb m R x) shares e s l

    times_gram-0 : (x : ℕ → ℤ) → energy x ≡ pos 0 → (j : ℕ) → times_gram n m w R x j ≡ pos 0
    times_gram-0 x e j = times_gram_is x j ∙ sum_zero n (λ s l. ⊎_elim
        (λ q. ap (λ z. z *ℤ (comb m R x s *ℤ R j s)) q ∙ zero-*ℤ (comb m R x s *ℤ R j s))
        (λ q. ap (λ z. w s *ℤ (z *ℤ R j s)) q ∙ ap (λ z. w s *ℤ z) (zero-*ℤ (R j s)) ∙ *ℤ-zero (w s))
        (energy-0 x e s l))

    -- Row r of a table: x is its right half and x N its left half. At each place but its own one of the two is 0.
    module _ (x : ℕ → ℤ) (r : ℕ) (inside : r < m) (apart : (j : ℕ) → j < m → j ≢ r → (x j ≡ pos 0) ⊎ (times_gram n m w R x j ≡ pos 0)) where
      pivot_is : times_gram n m w R x r *ℤ x r ≡ energy x
      pivot_is = sym (sum_single m r inside (λ j l d. ⊎_elim
          (λ q. ap (λ z. times_gram n m w R x j *ℤ z) q ∙ *ℤ-zero (times_gram n m w R x j))
          (λ q. ap (λ z. z *ℤ x j) q ∙ zero-*ℤ (x j)) (apart j l d))) ∙ energy_is x

      pub pivot-≥0 : pos 0 <ℤ x r → pos 0 ≤ℤ times_gram n m w R x r
      pivot-≥0 h = ≥0-by (times_gram n m w R x r) (x r) h (subst (λ z. pos 0 ≤ℤ z) (sym pivot_is) (energy-≥0 x))

      pub spare_row-0 : times_gram n m w R x r ≡ pos 0 → (j : ℕ) → times_gram n m w R x j ≡ pos 0
      spare_row-0 e = times_gram-0 x (sym pivot_is ∙ ap (λ z. z *ℤ x r) e ∙ zero-*ℤ (x r))
