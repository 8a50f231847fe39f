-- Why the placing that the multipliers give is the nearest.
use Rattle.std.proofs.Common.{◌≡◌, ℕ, ◌<◌, ◌≢◌, ◌⊎◌, List, [], ◌∷◌, ℤ, pos, ◌+ℤ◌, ◌-ℤ◌, ◌*ℤ◌, ◌≤ℤ◌, ◌<ℤ◌, sym, refl, ap, ◌∙◌, subst, inl, inr, ⊎_elim, arith}
use lib.IntN.{*ℤ-zero, zero-*ℤ, +ℤ_idr}
use borrow.Author.Differences.{ints}
use Rattle.whole.specs.Sums.{sum_below}
use Rattle.whole.proofs.Integers.{*-≥0, *-zero, above-0, cancel}
use Rattle.whole.proofs.Ring.{v, k, ◌⊕◌, ◌⊖◌, ◌⊗◌, ring}
use Rattle.whole.proofs.Sums.{sum_ext, sum_zero, sum_add, sum_scale, sum_swap, sum-≥0, sum_all-0}
use Rattle.linear.specs.Products.{InnerProduct}
use Rattle.linear.specs.Gram.{comb}
use Rattle.linear.specs.Placings.{Meets, Agrees, Same, cost, placed, Weighted}
use Rattle.linear.specs.Theorems.{Nearest}
use Rattle.linear.proofs.Products.{of, of_ext, of_sym, of_times, of_zero, of_sum, of-≥0, of-0, of_square, total, total_scale}
use Rattle.linear.proofs.Gram.{dot-step-r}
use Rattle.linear.proofs.Solving.{placed-meets}

module _ (size : ℕ) (inner : List ℤ → List ℤ → ℤ) (P : InnerProduct size inner) (n m : ℕ) (κ : ℤ) (w share : ℕ → ℤ) (R : ℕ → ℕ → ℤ) where
  abbrev ip : (ℕ → ℤ) → (ℕ → ℤ) → ℤ
  ip u y = of size inner P u y

  abbrev squares : (ℕ → ℕ → ℤ) → ℤ
  squares u = total size inner P n w u

  -- a: a change whose loose part is v s times a combination of the relations. δ: a change of loose parameters alone that changes no relation.
  module _ (x a δ : ℕ → ℕ → ℤ)
      (moves : (s : ℕ) → s < n → ((c : ℕ) → c < size → δ s c ≡ pos 0) ⊎ ((w s *ℤ share s ≡ κ) × ((c : ℕ) → c < size → a s c ≡ share s *ℤ sum_below m (λ i. R i s *ℤ x i c))))
      (level : (i : ℕ) → i < m → (c : ℕ) → c < size → sum_below n (λ s. R i s *ℤ δ s c) ≡ pos 0) where
    cross_term : (s : ℕ) → s < n → w s *ℤ ip (δ s) (a s) ≡ κ *ℤ sum_below m (λ i. R i s *ℤ ip (δ s) (x i))
    cross_term s l = ⊎_elim still loose (moves s l)
      where
        still : ((c : ℕ) → c < size → δ s c ≡ pos 0) → w s *ℤ ip (δ s) (a s) ≡ κ *ℤ sum_below m (λ i. R i s *ℤ ip (δ s) (x i))
        still h =
            ap (λ z. w s *ℤ z) (of_zero size inner P (δ s) (a s) h) ∙ *ℤ-zero (w s)
            ∙ sym (ap (λ z. κ *ℤ z) (sum_zero m (λ i b. ap (λ z. R i s *ℤ z) (of_zero size inner P (δ s) (x i) h) ∙ *ℤ-zero (R i s))) ∙ *ℤ-zero κ)

        loose : (w s *ℤ share s ≡ κ) × ((c : ℕ) → c < size → a s c ≡ share s *ℤ sum_below m (λ i. R i s *ℤ x i c)) → w s *ℤ ip (δ s) (a s) ≡ κ *ℤ sum_below m (λ i. R i s *ℤ ip (δ s) (x i))
        loose h =
            ap (λ z. w s *ℤ z)
            (of_sym size inner P (δ s) (a s) ∙ of_ext size inner P (a s) (λ c. share s *ℤ sum_below m (λ i. R i s *ℤ x i c)) (δ s) h.1
            ∙ of_times size inner P (share s) (λ c. sum_below m (λ i. R i s *ℤ x i c)) (δ s)
            ∙ ap (λ z. share s *ℤ z) (of_sum size inner P m (λ i c. R i s *ℤ x i c) (δ s)
            ∙ sum_ext m (λ i b. of_times size inner P (R i s) (x i) (δ s) ∙ ap (λ z. R i s *ℤ z) (of_sym size inner P (x i) (δ s)))))
            ∙ ring (w s ∷ share s ∷ sum_below m (λ i. R i s *ℤ ip (δ s) (x i)) ∷ []) (v 0 ⊗ (v 1 ⊗ v 2)) (v 0 ⊗ v 1 ⊗ v 2) tt
            ∙ ap (λ z. z *ℤ sum_below m (λ i. R i s *ℤ ip (δ s) (x i))) h.0

    -- the two changes are orthogonal
    cross : sum_below n (λ s. w s *ℤ ip (δ s) (a s)) ≡ pos 0
    cross =
        sum_ext n cross_term
        ∙ sum_scale n κ (λ s. sum_below m (λ i. R i s *ℤ ip (δ s) (x i)))
        ∙ ap (λ z. κ *ℤ z) (sum_swap n m (λ s i. R i s *ℤ ip (δ s) (x i))
        ∙ sum_zero m (λ i b.
        sum_ext n (λ s l. sym (of_times size inner P (R i s) (δ s) (x i))) ∙ sym (of_sum size inner P n (λ s c. R i s *ℤ δ s c) (x i))
        ∙ of_zero size inner P (λ c. sum_below n (λ s. R i s *ℤ δ s c)) (x i) (level i b)))
        ∙ *ℤ-zero κ

    pythagoras : squares (λ s c. a s c +ℤ δ s c) ≡ squares a +ℤ squares δ
    pythagoras =
        sum_ext n (λ s l. ap (λ z. w s *ℤ z) (of_square size inner P (a s) (δ s))
        ∙ ring (w s ∷ ip (a s) (a s) ∷ ip (δ s) (δ s) ∷ ip (δ s) (a s) ∷ []) (v 0 ⊗ (v 1 ⊕ (v 2 ⊕ k (pos 2) ⊗ v 3))) (v 0 ⊗ v 1 ⊕ (v 0 ⊗ v 2 ⊕ k (pos 2) ⊗ (v 0 ⊗ v 3))) tt)
        ∙ sum_add n (λ s. w s *ℤ ip (a s) (a s)) (λ s. w s *ℤ ip (δ s) (δ s) +ℤ pos 2 *ℤ (w s *ℤ ip (δ s) (a s)))
        ∙ ap (λ z. squares a +ℤ z) (sum_add n (λ s. w s *ℤ ip (δ s) (δ s)) (λ s. pos 2 *ℤ (w s *ℤ ip (δ s) (a s)))
        ∙ ap (λ z. squares δ +ℤ z) (sum_scale n (pos 2) (λ s. w s *ℤ ip (δ s) (a s)) ∙ ap (λ z. pos 2 *ℤ z) cross)
        ∙ +ℤ_idr (squares δ))

    -- so a change with δ costs strictly more than without, unless δ is 0
    strictly : κ ≢ pos 0 → ((s : ℕ) → s < n → pos 0 ≤ℤ w s) → ¬ ((s : ℕ) → s < n → (c : ℕ) → c < size → δ s c ≡ pos 0)
        → squares a <ℤ squares (λ s c. a s c +ℤ δ s c)
    strictly κ≢0 weights other = more (squares (λ s c. a s c +ℤ δ s c)) (squares a) (squares δ) pythagoras
        (above-0 (squares δ) (λ e. other (none e)) (sum-≥0 n terms))
      where
        more : (p q r : ℤ) → p ≡ q +ℤ r → pos 0 <ℤ r → q <ℤ p
        more p q r e h = omega (arith, ints)

        terms : (s : ℕ) → s < n → pos 0 ≤ℤ (w s *ℤ ip (δ s) (δ s))
        terms s l = *-≥0 (w s) (ip (δ s) (δ s)) (weights s l) (of-≥0 size inner P (δ s))

        none : squares δ ≡ pos 0 → (s : ℕ) → s < n → (c : ℕ) → c < size → δ s c ≡ pos 0
        none e s l = ⊎_elim (λ h. h)
            (λ h. ⊎_elim (λ u. absurd (κ≢0 (sym h.0 ∙ ap (λ z. z *ℤ share s) u ∙ zero-*ℤ (share s)))) (λ u. of-0 size inner P (δ s) u)
            (*-zero (w s) (ip (δ s) (δ s)) (sum_all-0 n terms e s l)))
            (moves s l)

  -- ---- the placing z over f d against another, y over e
  module _ (κ≢0 : κ ≢ pos 0) (weighted : Weighted n κ w share) (Q : ℕ → ℕ → ℤ) (d f : ℤ) (d≢0 : d ≢ pos 0) (base x : ℕ → ℕ → ℤ) where
    abbrev z : ℕ → ℕ → ℤ
    z s c = placed m share R f base x s c

    pub placed-agrees : Agrees size n share d base (f *ℤ d) z
    placed-agrees s l h c b =
        ap (λ y. d *ℤ (f *ℤ base s c +ℤ y *ℤ comb m R (λ i. x i c) s)) h
        ∙ ring (d ∷ f ∷ base s c ∷ comb m R (λ i. x i c) s ∷ []) (v 0 ⊗ (v 1 ⊗ v 2 ⊕ k (pos 0) ⊗ v 3)) (v 1 ⊗ v 0 ⊗ v 2) tt

    module _ (z-meets : Meets size n m R Q (f *ℤ d) z) (e : ℤ) (y : ℕ → ℕ → ℤ) (meets : Meets size n m R Q e y) (agrees : Agrees size n share d base e y) where
      -- both gaps to the base over one denominator, and their difference
      abbrev mine : ℕ → ℕ → ℤ
      mine s c = e *ℤ (d *ℤ z s c -ℤ f *ℤ d *ℤ base s c)

      abbrev theirs : ℕ → ℕ → ℤ
      theirs s c = f *ℤ d *ℤ (d *ℤ y s c -ℤ e *ℤ base s c)

      δ : ℕ → ℕ → ℤ
      δ s c = d *ℤ (f *ℤ d *ℤ y s c -ℤ e *ℤ z s c)

      joined : (s c : ℕ) → mine s c +ℤ δ s c ≡ theirs s c
      unfolding δ
      joined s c = ring (e ∷ d ∷ z s c ∷ f ∷ base s c ∷ y s c ∷ []) (v 0 ⊗ (v 1 ⊗ v 2 ⊖ v 3 ⊗ v 1 ⊗ v 4) ⊕ v 1 ⊗ (v 3 ⊗ v 1 ⊗ v 5 ⊖ v 0 ⊗ v 2)) (v 3 ⊗ v 1 ⊗ (v 1 ⊗ v 5 ⊖ v 0 ⊗ v 4)) tt

      moves : (s : ℕ) → s < n → ((c : ℕ) → c < size → δ s c ≡ pos 0) ⊎ ((w s *ℤ share s ≡ κ) × ((c : ℕ) → c < size → mine s c ≡ share s *ℤ sum_below m (λ i. R i s *ℤ (e *ℤ d *ℤ x i c))))
      unfolding δ
      moves s l = ⊎_elim
          (λ h. inl (λ c b.
          ring (d ∷ f ∷ y s c ∷ e ∷ z s c ∷ []) (v 0 ⊗ (v 1 ⊗ v 0 ⊗ v 2 ⊖ v 3 ⊗ v 4)) (v 1 ⊗ v 0 ⊗ (v 0 ⊗ v 2) ⊖ v 3 ⊗ (v 0 ⊗ v 4)) tt
          ∙ (λ t. f *ℤ d *ℤ agrees s l h c b t -ℤ e *ℤ placed-agrees s l h c b t)
          ∙ ring (d ∷ f ∷ e ∷ base s c ∷ []) (v 1 ⊗ v 0 ⊗ (v 2 ⊗ v 3) ⊖ v 2 ⊗ (v 1 ⊗ v 0 ⊗ v 3)) (k (pos 0)) tt))
          (λ h. inr (
            h,
            λ c b.
                ring (e ∷ d ∷ f ∷ base s c ∷ share s ∷ comb m R (λ i. x i c) s ∷ []) (v 0 ⊗ (v 1 ⊗ (v 2 ⊗ v 3 ⊕ v 4 ⊗ v 5) ⊖ v 2 ⊗ v 1 ⊗ v 3)) (v 4 ⊗ (v 0 ⊗ v 1 ⊗ v 5)) tt
                ∙ ap (λ u. share s *ℤ u) (sym (sum_scale m (e *ℤ d) (λ i. x i c *ℤ R i s)) ∙ sum_ext m (λ i u. ring ((e *ℤ d) ∷ x i c ∷ R i s ∷ []) (v 0 ⊗ (v 1 ⊗ v 2)) (v 2 ⊗ (v 0 ⊗ v 1)) tt)),
          ))
          (weighted s l).2

      level : (i : ℕ) → i < m → (c : ℕ) → c < size → sum_below n (λ s. R i s *ℤ δ s c) ≡ pos 0
      unfolding δ
      level i l c b =
          sum_ext n (λ s u. ring (R i s ∷ d ∷ (f *ℤ d *ℤ y s c -ℤ e *ℤ z s c) ∷ []) (v 0 ⊗ (v 1 ⊗ v 2)) (v 1 ⊗ (v 0 ⊗ v 2)) tt)
          ∙ sum_scale n d (λ s. R i s *ℤ (f *ℤ d *ℤ y s c -ℤ e *ℤ z s c))
          ∙ ap (λ u. d *ℤ u) (dot-step-r n (f *ℤ d) e (R i) (λ s. y s c) (λ s. z s c) ∙ (λ t. f *ℤ d *ℤ meets i l c b t -ℤ e *ℤ z-meets i l c b t))
          ∙ ring (d ∷ f ∷ e ∷ Q i c ∷ []) (v 0 ⊗ (v 1 ⊗ v 0 ⊗ (v 2 ⊗ v 3) ⊖ v 2 ⊗ (v 1 ⊗ v 0 ⊗ v 3))) (k (pos 0)) tt

      pub nearer : ¬ (Same size n (f *ℤ d) z e y) → (e *ℤ e *ℤ cost size inner n w d base (f *ℤ d) z) <ℤ (f *ℤ d *ℤ (f *ℤ d) *ℤ cost size inner n w d base e y)
      unfolding δ
      nearer other =
          subst (λ q. (e *ℤ e *ℤ cost size inner n w d base (f *ℤ d) z) <ℤ q) right
          (subst (λ p. p <ℤ squares (λ s c. mine s c +ℤ δ s c)) left
          (strictly (λ i c. e *ℤ d *ℤ x i c) mine δ moves level κ≢0 (λ s l. (weighted s l).1) differs))
        where
          left : squares mine ≡ e *ℤ e *ℤ cost size inner n w d base (f *ℤ d) z
          left = total_scale size inner P n w e mine (λ s c. d *ℤ z s c -ℤ f *ℤ d *ℤ base s c) (λ s l. inr (λ c b. refl))

          right : squares (λ s c. mine s c +ℤ δ s c) ≡ f *ℤ d *ℤ (f *ℤ d) *ℤ cost size inner n w d base e y
          right = total_scale size inner P n w (f *ℤ d) (λ s c. mine s c +ℤ δ s c) (λ s c. d *ℤ y s c -ℤ e *ℤ base s c) (λ s l. inr (λ c b. joined s c))

          differs : ¬ ((s : ℕ) → s < n → (c : ℕ) → c < size → δ s c ≡ pos 0)
          differs h = other (λ s l c b. sym (cancel (f *ℤ d *ℤ y s c) (e *ℤ z s c) (⊎_elim (λ q. absurd (d≢0 q)) (λ q. q) (*-zero d (f *ℤ d *ℤ y s c -ℤ e *ℤ z s c) (h s l c b)))))

pub nearest : Nearest
nearest size inner n m κ w share R Q t d f base x P κ≢0 weighted d≢0 M X =
    let holds = placed-meets size n m share R Q t d f base x M X in
    record {
      meets = holds;
      agrees = placed-agrees size inner P n m κ w share R κ≢0 weighted Q d f d≢0 base x;
      strictly = λ e y meets agrees. nearer size inner P n m κ w share R κ≢0 weighted Q d f d≢0 base x holds e y meets agrees;
    }
