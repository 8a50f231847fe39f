-- What a table is for, from its meaning alone: the solution of N x = f c, and when there is none.
use Rattle.std.proofs.Common.{◌≡◌, ℕ, ◌<◌, ◌≢◌, ◌⊎◌, [], ◌∷◌, ℤ, pos, ◌+ℤ◌, ◌-ℤ◌, ◌*ℤ◌, ◌≤ℤ◌, sym, ap, ◌∙◌, ⊎_elim}
use lib.IntN.{*ℤ-zero, zero-*ℤ, *ℤ_comm, ℤ_discrete}
use Rattle.whole.specs.Sums.{sum_below}
use Rattle.whole.proofs.Integers.{cancel, *-zero, one-*}
use Rattle.whole.proofs.Ring.{v, k, ◌⊕◌, ◌⊖◌, ◌⊗◌, ring}
use Rattle.whole.proofs.Sums.{sum_ext, sum_zero, sum_add, sum_scale, sum_scale_r, sum_swap, sum_single}
use Rattle.linear.specs.Gram.{dot, comb, gram}
use Rattle.linear.specs.Elimination.{Grid, entry, right_half}
use Rattle.linear.specs.Meaning.{Meaning}
use Rattle.linear.specs.Placings.{Meets, residual, Multipliers, placed, carried}
use Rattle.linear.specs.Theorems.{Infeasible}
use Rattle.linear.proofs.Gram.{dot-step-r, gram_sym, times_gram_is, energy, energy_is, energy-0}

module _ (n m : ℕ) (w : ℕ → ℤ) (R : ℕ → ℕ → ℤ) (t : Grid) (M : Meaning n m w R t) where
  abbrev B : ℕ → ℕ → ℤ
  B i j = right_half m t i j

  -- the right half times N x is the left half times x
  through : (x : ℕ → ℤ) (i : ℕ) → i < m → dot m (B i) (λ j. dot m (gram n w R j) x) ≡ dot m (entry t i) x
  through x i l =
      sum_ext m (λ j b. sym (sum_scale m (B i j) (λ s. gram n w R j s *ℤ x s)))
      ∙ sum_swap m m (λ j s. B i j *ℤ (gram n w R j s *ℤ x s))
      ∙ sum_ext m (λ s b.
      sum_ext m (λ j c. ring (B i j ∷ gram n w R j s ∷ x s ∷ []) (v 0 ⊗ (v 1 ⊗ v 2)) (v 0 ⊗ v 1 ⊗ v 2) tt)
      ∙ sum_scale_r m (x s) (λ j. B i j *ℤ gram n w R j s)
      ∙ ap (λ z. z *ℤ x s) (sym (M.halves i l s b)))

  -- ---- multipliers x over f for the numbers c
  module _ (c x : ℕ → ℤ) (f : ℤ)
      (needed : (i : ℕ) → i < m → entry t i i ≢ pos 0 → entry t i i *ℤ x i ≡ f *ℤ dot m (B i) c)
      (spare : (i : ℕ) → i < m → entry t i i ≡ pos 0 → (x i ≡ pos 0) × (dot m (B i) c ≡ pos 0)) where
    -- only the diagonal number of a row meets a multiplier
    row : (i : ℕ) → i < m → dot m (entry t i) x ≡ f *ℤ dot m (B i) c
    row i l = by (ℤ_discrete (entry t i i) (pos 0))
      where
        by : Dec (entry t i i ≡ pos 0) → dot m (entry t i) x ≡ f *ℤ dot m (B i) c
        by (yes e) = sum_zero m (λ j b. ap (λ y. y *ℤ x j) (M.spare i l e j b) ∙ zero-*ℤ (x j)) ∙ sym (ap (λ y. f *ℤ y) (spare i l e).1 ∙ *ℤ-zero f)
        by (no d) = sum_single m i l (λ j b o. other j b o (ℤ_discrete (entry t j j) (pos 0))) ∙ needed i l d
          where
            other : (j : ℕ) → j < m → j ≢ i → Dec (entry t j j ≡ pos 0) → entry t i j *ℤ x j ≡ pos 0
            other j b o (yes e) = ap (λ y. entry t i j *ℤ y) (spare j b e).0 ∙ *ℤ-zero (entry t i j)
            other j b o (no e) = ap (λ y. y *ℤ x j) (M.needed i l d j b e (λ q. o (sym q))) ∙ zero-*ℤ (x j)

    -- N x = f c
    pub solution : (j : ℕ) → j < m → dot m (gram n w R j) x ≡ f *ℤ c j
    solution j b = from-0 (dot m (gram n w R j) x) (f *ℤ c j) (M.kernel gap orthogonal j b)
      where
        gap : ℕ → ℤ
        gap s = pos 1 *ℤ dot m (gram n w R s) x -ℤ f *ℤ c s

        from-0 : (a b : ℤ) → pos 1 *ℤ a -ℤ b ≡ pos 0 → a ≡ b
        from-0 a b e = cancel a b (ap (λ z. z -ℤ b) (sym (one-* a)) ∙ e)

        orthogonal : (i : ℕ) → i < m → dot m (B i) gap ≡ pos 0
        orthogonal i l =
            dot-step-r m (pos 1) f (B i) (λ s. dot m (gram n w R s) x) c
            ∙ ap (λ z. pos 1 *ℤ z -ℤ f *ℤ dot m (B i) c) (through x i l ∙ row i l)
            ∙ ring (f ∷ dot m (B i) c ∷ []) (k (pos 1) ⊗ (v 0 ⊗ v 1) ⊖ v 0 ⊗ v 1) (k (pos 0)) tt

  -- ---- a spare row
  -- its combination of the relations is 0 in every loose column
  pub spare-comb : ((s : ℕ) → s < n → pos 0 ≤ℤ w s) → (i : ℕ) → i < m → entry t i i ≡ pos 0 → (s : ℕ) → s < n → (w s ≡ pos 0) ⊎ (comb m R (B i) s ≡ pos 0)
  spare-comb shares i l e = energy-0 n m w R shares (B i) flat
    where
      flat : energy n m w R (B i) ≡ pos 0
      flat = sym (energy_is n m w R (B i)) ∙ sum_zero m (λ j b. ap (λ z. z *ℤ B i j) (sym (M.halves i l j b) ∙ M.spare i l e j b) ∙ zero-*ℤ (B i j))

  -- so it says that the numbers c of every change y of loose parameters, which changes relation j by f c j, are 0 in all
  pub no_solution : ((s : ℕ) → s < n → pos 0 ≤ℤ w s) → (i : ℕ) → i < m → entry t i i ≡ pos 0 → (c y : ℕ → ℤ) (f : ℤ)
      → ((s : ℕ) → s < n → w s ≡ pos 0 → y s ≡ pos 0) → ((j : ℕ) → j < m → dot n (R j) y ≡ f *ℤ c j) → f *ℤ dot m (B i) c ≡ pos 0
  no_solution shares i l e c y f fixed meets =
      sym (sum_scale m f (λ j. B i j *ℤ c j))
      ∙ sum_ext m (λ j b. ring (f ∷ B i j ∷ c j ∷ []) (v 0 ⊗ (v 1 ⊗ v 2)) (v 1 ⊗ (v 0 ⊗ v 2)) tt ∙ ap (λ z. B i j *ℤ z) (sym (meets j b)) ∙ sym (sum_scale n (B i j) (λ s. R j s *ℤ y s)))
      ∙ sum_swap m n (λ j s. B i j *ℤ (R j s *ℤ y s))
      ∙ sum_zero n (λ s q.
      sum_ext m (λ j b. ring (B i j ∷ R j s ∷ y s ∷ []) (v 0 ⊗ (v 1 ⊗ v 2)) (v 0 ⊗ v 1 ⊗ v 2) tt)
      ∙ sum_scale_r m (y s) (λ j. B i j *ℤ R j s)
      ∙ ⊎_elim (λ z. ap (λ u. comb m R (B i) s *ℤ u) (fixed s q z) ∙ *ℤ-zero (comb m R (B i) s)) (λ z. ap (λ u. u *ℤ y s) z ∙ zero-*ℤ (y s))
      (spare-comb shares i l e s q))

pub infeasible : Infeasible
infeasible size n m w R Q t d base shares M i l e c b some g y g≢0 agrees meets =
    ⊎_elim g≢0 some (*-zero g (carried m t (residual n R Q d base) i c)
    (no_solution n m w R t M shares i l e (λ j. residual n R Q d base j c) (λ s. d *ℤ y s c -ℤ g *ℤ base s c) g
    (λ s u h. ap (λ z. z -ℤ g *ℤ base s c) (agrees s u h c b) ∙ ring ((g *ℤ base s c) ∷ []) (v 0 ⊖ v 0) (k (pos 0)) tt)
    (λ j u. dot-step-r n d g (R j) (λ s. y s c) (λ s. base s c)
    ∙ ap (λ z. d *ℤ z -ℤ g *ℤ dot n (R j) (λ s. base s c)) (meets j u c b)
    ∙ ring (d ∷ g ∷ Q j c ∷ dot n (R j) (λ s. base s c) ∷ []) (v 0 ⊗ (v 1 ⊗ v 2) ⊖ v 1 ⊗ v 3) (v 1 ⊗ (v 0 ⊗ v 2 ⊖ v 3)) tt)))

-- the placing that multipliers give meets every relation
pub placed-meets : (size n m : ℕ) (w : ℕ → ℤ) (R Q : ℕ → ℕ → ℤ) (t : Grid) (d f : ℤ) (base x : ℕ → ℕ → ℤ) → Meaning n m w R t
    → Multipliers size m t (carried m t (residual n R Q d base)) f x → Meets size n m R Q (f *ℤ d) (placed m w R f base x)
placed-meets size n m w R Q t d f base x M X j b c u =
    sum_ext n (λ s l. ring (R j s ∷ f ∷ base s c ∷ w s ∷ comb m R (λ i. x i c) s ∷ []) (v 0 ⊗ (v 1 ⊗ v 2 ⊕ v 3 ⊗ v 4)) (v 1 ⊗ (v 0 ⊗ v 2) ⊕ v 3 ⊗ (v 4 ⊗ v 0)) tt)
    ∙ sum_add n (λ s. f *ℤ (R j s *ℤ base s c)) (λ s. w s *ℤ (comb m R (λ i. x i c) s *ℤ R j s))
    ∙ (λ a. sum_scale n f (λ s. R j s *ℤ base s c) a +ℤ moved a)
    ∙ ring (f ∷ dot n (R j) (λ s. base s c) ∷ d ∷ Q j c ∷ []) (v 0 ⊗ v 1 ⊕ v 0 ⊗ (v 2 ⊗ v 3 ⊖ v 1)) (v 0 ⊗ v 2 ⊗ v 3) tt
  where
    moved : sum_below n (λ s. w s *ℤ (comb m R (λ i. x i c) s *ℤ R j s)) ≡ f *ℤ residual n R Q d base j c
    moved =
        sym (times_gram_is n m w R (λ i. x i c) j)
        ∙ sum_ext m (λ i l. ap (λ z. x i c *ℤ z) (gram_sym n m w R i j) ∙ *ℤ_comm (x i c) (gram n w R j i))
        ∙ solution n m w R t M (λ i. residual n R Q d base i c) (λ i. x i c) f (λ i l h. X.needed i l h c u) (λ i l h. X.spare i l h c u) j b
