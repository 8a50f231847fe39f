-- The invariant of the elimination: it holds of the first table, and every step keeps it.
use Rattle.std.proofs.Common.{◌≡◌, ℕ, suc, ◌<◌, ◌≤◌, ◌≢◌, ◌⊎◌, [], ◌∷◌, ℤ, pos, ◌-ℤ◌, ◌*ℤ◌, ◌≤ℤ◌, ◌<ℤ◌, sym, refl, ap, ◌∙◌, subst, inl, inr, ⊎_elim, not-suc-le-zero, arith}
use native.Mathlib.Decide.{ℕ_discrete}
use lib.IntN.{*ℤ-zero, zero-*ℤ}
use borrow.Author.Differences.{ints}
use Rattle.std.proofs.lemmas.Bool.{cases_lt, cond-true, cond-false, eq-eqb, ne_eqb}
use Rattle.whole.proofs.Integers.{one-*, not_both, cancel-0, cancel-*, >0-by, *->0}
use Rattle.whole.proofs.Ring.{v, k, ◌⊖◌, ◌⊗◌, ring}
use Rattle.whole.proofs.Sums.{sum_ext, sum_single}
use Rattle.linear.specs.Gram.{dot, gram, times_gram}
use Rattle.linear.specs.Elimination.{unit}
use Rattle.linear.specs.Invariant.{Invariant, Step}
use Rattle.linear.proofs.Gram.{dot_scale, dot-step, pivot-≥0, spare_row-0}

-- ---- the first table
unit-own : (i : ℕ) → unit i i ≡ pos 1
unit-own i = cond-true _ _ _ (eq-eqb i i refl)

unit-other : (i j : ℕ) → j ≢ i → unit i j ≡ pos 0
unit-other i j d = cond-false _ _ _ (ne_eqb i j (λ e. d (sym e)))

unit-dot : (m : ℕ) (i : ℕ) → i < m → (c : ℕ → ℤ) → dot m (unit i) c ≡ c i
unit-dot m i l c = sum_single m i l (λ j b d. ap (λ z. z *ℤ c j) (unit-other i j d) ∙ zero-*ℤ (c j)) ∙ ap (λ z. z *ℤ c i) (unit-own i) ∙ one-* (c i)

pub first : (n m : ℕ) (w : ℕ → ℤ) (R : ℕ → ℕ → ℤ) → Invariant n m w R 0 (gram n w R) unit
first n m w R = record {
  halves = λ i l j b. sym (unit-dot m i l (λ t. gram n w R t j));
  done = λ j b. absurd (not-suc-le-zero b);
  own = λ i l h. subst (λ z. pos 0 <ℤ z) (sym (unit-own i)) one-above;
  support = λ i l h j b d. inl (unit-other i j d);
  kernel = λ c h j b. sym (unit-dot m j b c) ∙ h j b;
}
  where
    one-above : pos 0 <ℤ pos 1
    one-above = omega (arith, ints)

-- ---- one number of a changed row
module _ (g p q a b a' : ℤ) (g>0 : pos 0 <ℤ g) (e : g *ℤ a' ≡ p *ℤ a -ℤ q *ℤ b) where
  keeps-0 : a ≡ pos 0 → b ≡ pos 0 → a' ≡ pos 0
  keeps-0 ea eb = cancel-0 g a' g>0 (e ∙ (λ t. p *ℤ ea t -ℤ q *ℤ eb t) ∙ ring (p ∷ q ∷ []) (v 0 ⊗ k (pos 0) ⊖ v 1 ⊗ k (pos 0)) (k (pos 0)) tt)

  keeps-0' : a ≡ pos 0 → q ≡ pos 0 → a' ≡ pos 0
  keeps-0' ea eq = cancel-0 g a' g>0 (e ∙ (λ t. p *ℤ ea t -ℤ eq t *ℤ b) ∙ ring (p ∷ b ∷ []) (v 0 ⊗ k (pos 0) ⊖ k (pos 0) ⊗ v 1) (k (pos 0)) tt)

  keeps->0 : pos 0 <ℤ p → pos 0 <ℤ a → b ≡ pos 0 → pos 0 <ℤ a'
  keeps->0 hp ha eb = >0-by g a' g>0 (subst (λ z. pos 0 <ℤ z) (sym (e ∙ (λ t. p *ℤ a -ℤ q *ℤ eb t) ∙ ring (p ∷ q ∷ a ∷ []) (v 0 ⊗ v 2 ⊖ v 1 ⊗ k (pos 0)) (v 0 ⊗ v 2) tt)) (*->0 p a hp ha))

  keeps->0' : pos 0 <ℤ p → pos 0 <ℤ a → q ≡ pos 0 → pos 0 <ℤ a'
  keeps->0' hp ha eq = >0-by g a' g>0 (subst (λ z. pos 0 <ℤ z) (sym (e ∙ (λ t. p *ℤ a -ℤ eq t *ℤ b) ∙ ring (p ∷ b ∷ a ∷ []) (v 0 ⊗ v 2 ⊖ k (pos 0) ⊗ v 1) (v 0 ⊗ v 2) tt)) (*->0 p a hp ha))

-- the column of the pivot
clears : (g p q a' : ℤ) → pos 0 <ℤ g → g *ℤ a' ≡ p *ℤ q -ℤ q *ℤ p → a' ≡ pos 0
clears g p q a' g>0 e = cancel-0 g a' g>0 (e ∙ ring (p ∷ q ∷ []) (v 0 ⊗ v 1 ⊖ v 1 ⊗ v 0) (k (pos 0)) tt)

changed-dot : (m : ℕ) (g p q : ℤ) (x y x' c : ℕ → ℤ) → ((j : ℕ) → j < m → g *ℤ x' j ≡ p *ℤ x j -ℤ q *ℤ y j) → g *ℤ dot m x' c ≡ p *ℤ dot m x c -ℤ q *ℤ dot m y c
changed-dot m g p q x y x' c h = sym (dot_scale m g x' c) ∙ sum_ext m (λ j l. ap (λ z. z *ℤ c j) (h j l)) ∙ dot-step m p q x y c

module _ (n m : ℕ) (w : ℕ → ℤ) (R : ℕ → ℕ → ℤ) (r : ℕ) (r<m : r < m) (A B : ℕ → ℕ → ℤ) (I : Invariant n m w R r A B) where
  -- a needed row that is done is alone in its column
  alone : (j : ℕ) → j < m → j < r → pos 0 <ℤ A j j → (i : ℕ) → i < m → i ≢ j → A i j ≡ pos 0
  alone j l b h = ⊎_elim (λ z. absurd (not_both (A j j) h (z j l))) (λ c. c.1) (I.done j b)

  -- at each place of row r but its own, one half is 0
  apart : (j : ℕ) → j < m → j ≢ r → (B r j ≡ pos 0) ⊎ (times_gram n m w R (B r) j ≡ pos 0)
  apart j l d = ⊎_elim inl (λ s. inr (sym (I.halves r r<m j l) ∙ alone j l s.0 s.2 r r<m (λ e. d (sym e)))) (I.support r r<m (inl (omega arith)) j l d)

  module _ (shares : (s : ℕ) → s < n → pos 0 ≤ℤ w s) where
    pub diagonal-≥0 : pos 0 ≤ℤ A r r
    diagonal-≥0 = subst (λ z. pos 0 ≤ℤ z) (sym (I.halves r r<m r r<m)) (pivot-≥0 n m w R shares (B r) r r<m apart (I.own r r<m (inl (omega arith))))

    pub spare_row : A r r ≡ pos 0 → (j : ℕ) → j < m → A r j ≡ pos 0
    spare_row e j l = I.halves r r<m j l ∙ spare_row-0 n m w R shares (B r) r r<m apart (sym (I.halves r r<m r r<m) ∙ e) j

    -- a spare row: the table stays
    pub next_spare : A r r ≡ pos 0 → Invariant n m w R (suc r) A B
    next_spare e = record {
      halves = I.halves;
      done = λ j b. by j b (ℕ_discrete j r);
      own = λ i l h. I.own i l (earlier i h);
      support = λ i l h j b d. ⊎_elim inl (λ s. inr (omega arith, s.1, s.2)) (I.support i l (earlier i h) j b d);
      kernel = I.kernel;
    }
      where
        earlier : (i : ℕ) → (suc r ≤ i) ⊎ (A i i ≡ pos 0) → (r ≤ i) ⊎ (A i i ≡ pos 0)
        earlier i (inl h) = inl (omega arith)
        earlier i (inr h) = inr h

        by : (j : ℕ) → j < suc r → Dec (j ≡ r) → ((l : ℕ) → l < m → A j l ≡ pos 0) ⊎ ((pos 0 <ℤ A j j) × ((i : ℕ) → i < m → i ≢ j → A i j ≡ pos 0))
        by j b (yes q) = inl (λ l c. ap (λ z. A z l) q ∙ spare_row e l c)
        by j b (no d) = I.done j (omega arith)

  -- a needed row: the others change
  module _ (A' B' : ℕ → ℕ → ℤ) (S : Step m r A B A' B') (p>0 : pos 0 <ℤ A r r) where
    halves' : (i : ℕ) → i < m → (j : ℕ) → j < m → A' i j ≡ times_gram n m w R (B' i) j
    halves' i l j b = by (ℕ_discrete i r)
      where
        by : Dec (i ≡ r) → A' i j ≡ times_gram n m w R (B' i) j
        by (yes q) = ap (λ z. A' z j) q ∙ S.same_A j b ∙ I.halves r r<m j b ∙ sum_ext m (λ t c. ap (λ z. z *ℤ gram n w R t j) (sym (S.same_B t c) ∙ ap (λ z. B' z t) (sym q)))
        by (no d) = cancel-* (S.divisor i) (A' i j) (times_gram n m w R (B' i) j) (S.above i l d)
            (S.new_A i l d j b ∙ (λ t. A r r *ℤ I.halves i l j b t -ℤ A i r *ℤ I.halves r r<m j b t)
            ∙ sym (changed-dot m (S.divisor i) (A r r) (A i r) (B i) (B r) (B' i) (λ t. gram n w R t j) (S.new_B i l d)))

    -- a spare row stays spare
    pub spare' : (j : ℕ) → j < m → j ≢ r → ((l : ℕ) → l < m → A j l ≡ pos 0) → (l : ℕ) → l < m → A' j l ≡ pos 0
    spare' j b d z l c = keeps-0' (S.divisor j) (A r r) (A j r) (A j l) (A r l) (A' j l) (S.above j b d) (S.new_A j b d l c) (z l c) (z r r<m)

    pub needed' : (j : ℕ) → j < m → j < r → pos 0 <ℤ A j j → pos 0 <ℤ A' j j
    needed' j b c h = keeps->0 (S.divisor j) (A r r) (A j r) (A j j) (A r j) (A' j j) (S.above j b (omega arith)) (S.new_A j b (omega arith) j b) p>0 h (alone j b c h r r<m (omega arith))

    alone' : (j : ℕ) → j < m → j < r → pos 0 <ℤ A j j → (i : ℕ) → i < m → i ≢ j → A' i j ≡ pos 0
    alone' j b c h i l d = by (ℕ_discrete i r)
      where
        by : Dec (i ≡ r) → A' i j ≡ pos 0
        by (yes q) = ap (λ z. A' z j) q ∙ S.same_A j b ∙ alone j b c h r r<m (omega arith)
        by (no o) = keeps-0 (S.divisor i) (A r r) (A i r) (A i j) (A r j) (A' i j) (S.above i l o) (S.new_A i l o j b) (alone j b c h i l d) (alone j b c h r r<m (omega arith))

    Done : ℕ → Type 0
    Done j = ((l : ℕ) → l < m → A' j l ≡ pos 0) ⊎ ((pos 0 <ℤ A' j j) × ((i : ℕ) → i < m → i ≢ j → A' i j ≡ pos 0))

    done' : (j : ℕ) → j < suc r → Done j
    unfolding Done
    done' j b = by (ℕ_discrete j r)
      where
        by : Dec (j ≡ r) → Done j
        by (yes q) = subst Done (sym q) (inr (
          subst (λ z. pos 0 <ℤ z) (sym (S.same_A r r<m)) p>0,
          λ i l d. clears (S.divisor i) (A r r) (A i r) (A' i r) (S.above i l d) (S.new_A i l d r r<m),
        ))
        by (no d) = ⊎_elim (λ z. inl (spare' j (omega arith) d z)) (λ c. inr (needed' j (omega arith) (omega arith) c.0, alone' j (omega arith) (omega arith) c.0)) (I.done j (omega arith))

    -- a row that is not needed after the step: a later one, or one that was spare
    which : (i : ℕ) → i < m → (suc r ≤ i) ⊎ (A' i i ≡ pos 0) → (r < i) ⊎ ((i < r) × ((l : ℕ) → l < m → A i l ≡ pos 0))
    which i l (inl h) = inl h
    which i l (inr e) = by (ℕ_discrete i r) (cases_lt r i)
      where
        by : Dec (i ≡ r) → (r < i) ⊎ (i ≤ r) → (r < i) ⊎ ((i < r) × ((l : ℕ) → l < m → A i l ≡ pos 0))
        by (yes q) o = absurd (not_both (A r r) p>0 (sym (S.same_A r r<m) ∙ ap (λ z. A' z z) (sym q) ∙ e))
        by (no d) (inl o) = inl o
        by (no d) (inr o) = inr (omega arith, ⊎_elim (λ z. z) (λ c. absurd (not_both (A' i i) (needed' i l (omega arith) c.0) e)) (I.done i (omega arith)))

    own' : (i : ℕ) → i < m → (suc r ≤ i) ⊎ (A' i i ≡ pos 0) → pos 0 <ℤ B' i i
    own' i l h = ⊎_elim
        (λ o. keeps->0 (S.divisor i) (A r r) (A i r) (B i i) (B r i) (B' i i) (S.above i l (omega arith)) (S.new_B i l (omega arith) i l) p>0 (I.own i l (inl (omega arith)))
        (⊎_elim (λ z. z) (λ s. absurd (clash o s.0)) (I.support r r<m (inl (omega arith)) i l (omega arith))))
        (λ o. keeps->0' (S.divisor i) (A r r) (A i r) (B i i) (B r i) (B' i i) (S.above i l (unlike o.0)) (S.new_B i l (unlike o.0) i l) p>0 (I.own i l (inr (o.1 i l))) (o.1 r r<m))
        (which i l h)
      where
        clash : r < i → i < r → ⊥
        clash a b = omega arith

        unlike : i < r → i ≢ r
        unlike a = omega arith

    support' : (i : ℕ) → i < m → (suc r ≤ i) ⊎ (A' i i ≡ pos 0) → (j : ℕ) → j < m → j ≢ i → (B' i j ≡ pos 0) ⊎ ((j < suc r) × (j < i) × (pos 0 <ℤ A' j j))
    support' i l h j b d = by (which i l h) (ℕ_discrete j r)
      where
        before : j < r → r < i → j < i
        before a c = omega arith

        more : (x : ℕ) → j < i → (j < r) × (j < x) × (pos 0 <ℤ A j j) → (B' i j ≡ pos 0) ⊎ ((j < suc r) × (j < i) × (pos 0 <ℤ A' j j))
        more x o s = inr (up_one s.0, o, needed' j b s.0 s.2)
          where
            up_one : j < r → j < suc r
            up_one a = omega arith

        by : (r < i) ⊎ ((i < r) × ((l : ℕ) → l < m → A i l ≡ pos 0)) → Dec (j ≡ r) → (B' i j ≡ pos 0) ⊎ ((j < suc r) × (j < i) × (pos 0 <ℤ A' j j))
        by (inl o) (yes q) = inr (omega arith, omega arith, subst (λ z. pos 0 <ℤ z) (sym (ap (λ z. A' z z) q ∙ S.same_A r r<m)) p>0)
        by (inl o) (no u) = ⊎_elim
            (λ x. ⊎_elim (λ y. inl (keeps-0 (S.divisor i) (A r r) (A i r) (B i j) (B r j) (B' i j) (S.above i l (omega arith)) (S.new_B i l (omega arith) j b) x y)) (λ s. more r (before s.1 o) s)
            (I.support r r<m (inl (omega arith)) j b u))
            (λ s. more i s.1 s) (I.support i l (inl (omega arith)) j b d)
        by (inr o) e = ⊎_elim
            (λ x. inl (keeps-0' (S.divisor i) (A r r) (A i r) (B i j) (B r j) (B' i j) (S.above i l (unlike o.0)) (S.new_B i l (unlike o.0) j b) x (o.1 r r<m)))
            (λ s. more i s.1 s) (I.support i l (inr (o.1 i l)) j b d)
          where
            unlike : i < r → i ≢ r
            unlike a = omega arith

    kernel' : (c : ℕ → ℤ) → ((i : ℕ) → i < m → dot m (B' i) c ≡ pos 0) → (j : ℕ) → j < m → c j ≡ pos 0
    kernel' c h = I.kernel c (λ i l. by i l (ℕ_discrete i r))
      where
        pivot : dot m (B r) c ≡ pos 0
        pivot = sum_ext m (λ t b. ap (λ z. z *ℤ c t) (sym (S.same_B t b))) ∙ h r r<m

        by : (i : ℕ) → i < m → Dec (i ≡ r) → dot m (B i) c ≡ pos 0
        by i l (yes q) = ap (λ z. dot m (B z) c) q ∙ pivot
        by i l (no d) = cancel-0 (A r r) (dot m (B i) c) p>0
            (back (dot m (B i) c) (dot m (B r) c) (S.divisor i *ℤ dot m (B' i) c) (A r r) (A i r)
            (changed-dot m (S.divisor i) (A r r) (A i r) (B i) (B r) (B' i) c (S.new_B i l d)) pivot
            (ap (λ z. S.divisor i *ℤ z) (h i l) ∙ *ℤ-zero (S.divisor i)))
          where
            back : (x y g p q : ℤ) → g ≡ p *ℤ x -ℤ q *ℤ y → y ≡ pos 0 → g ≡ pos 0 → p *ℤ x ≡ pos 0
            back x y g p q e ey eg = ring (p ∷ x ∷ q ∷ []) (v 0 ⊗ v 1) (v 0 ⊗ v 1 ⊖ v 2 ⊗ k (pos 0)) tt ∙ ap (λ z. p *ℤ x -ℤ q *ℤ z) (sym ey) ∙ sym e ∙ eg

    pub next_needed : Invariant n m w R (suc r) A' B'
    unfolding Done
    next_needed = record { halves = halves'; done = done'; own = own'; support = support'; kernel = kernel' }
