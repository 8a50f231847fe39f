-- Inner products of lists of coordinates, as products of the functions that give the coordinates; sums of weighted squares.
use Rattle.std.proofs.Common.{◌≡◌, ℕ, zero, suc, ◌<◌, ◌≢◌, ◌⊎◌, List, [], ◌∷◌, ℤ, pos, ◌+ℤ◌, ◌*ℤ◌, ◌≤ℤ◌, ◌<ℤ◌, sym, refl, ap, ◌∙◌, inl, inr, ⊎_elim, not-suc-le-zero, arith}
use native.Mathlib.Decide.{ℕ_discrete}
use lib.IntN.{zero-*ℤ, ℤ_discrete}
use borrow.Author.Differences.{ints}
use Rattle.whole.specs.Lists.{tab, at}
use Rattle.whole.specs.Sums.{sum_below}
use Rattle.whole.proofs.Integers.{<→≤, not_both}
use Rattle.whole.proofs.Lists.{tab-length, tab_ext, at-tab}
use Rattle.whole.proofs.Ring.{v, k, ◌⊕◌, ◌⊗◌, ring}
use Rattle.whole.proofs.Sums.{sum_ext, sum_scale}
use Rattle.linear.specs.Products.{InnerProduct}

-- all are 0, or some one is not
zeros_or : (n : ℕ) (f : ℕ → ℤ) → ((c : ℕ) → c < n → f c ≡ pos 0) ⊎ ((c : ℕ) × (c < n) × (f c ≢ pos 0))
zeros_or zero f = inl (λ c l. absurd (not-suc-le-zero l))
zeros_or (suc n) f = by (zeros_or n f) (ℤ_discrete (f n) (pos 0))
  where
    last : n < suc n
    last = omega arith

    up : {i : ℕ} → i < n → i < suc n
    up h = omega arith

    each : ((c : ℕ) → c < n → f c ≡ pos 0) → f n ≡ pos 0 → (c : ℕ) → c < suc n → f c ≡ pos 0
    each ih e c l = pick (ℕ_discrete c n)
      where
        pick : Dec (c ≡ n) → f c ≡ pos 0
        pick (yes p) = ap f p ∙ e
        pick (no d) = ih c (omega arith)

    by : ((c : ℕ) → c < n → f c ≡ pos 0) ⊎ ((c : ℕ) × (c < n) × (f c ≢ pos 0)) → Dec (f n ≡ pos 0) → ((c : ℕ) → c < suc n → f c ≡ pos 0) ⊎ ((c : ℕ) × (c < suc n) × (f c ≢ pos 0))
    by (inl ih) (yes e) = inl (each ih e)
    by (inl ih) (no d) = inr (n, last, d)
    by (inr h) e = inr (h.0, up h.1, h.2)

module _ (size : ℕ) (inner : List ℤ → List ℤ → ℤ) (P : InnerProduct size inner) where
  abbrev pub of : (ℕ → ℤ) → (ℕ → ℤ) → ℤ
  of u y = inner (tab size u) (tab size y)

  pub of_ext : (u z y : ℕ → ℤ) → ((c : ℕ) → c < size → u c ≡ z c) → of u y ≡ of z y
  of_ext u z y h = ap (λ l. inner l (tab size y)) (tab_ext size u z h)

  pub of_sym : (u y : ℕ → ℤ) → of u y ≡ of y u
  of_sym u y = P.symmetric (tab size u) (tab size y) (tab-length size u) (tab-length size y)

  pub of_times : (a : ℤ) (u y : ℕ → ℤ) → of (λ c. a *ℤ u c) y ≡ a *ℤ of u y
  of_times a u y =
      ap (λ l. inner l (tab size y)) (tab_ext size (λ c. a *ℤ u c) (λ c. a *ℤ at (tab size u) c) (λ c l. ap (λ x. a *ℤ x) (sym (at-tab size u c l))))
      ∙ P.factor a (tab size u) (tab size y) (tab-length size u) (tab-length size y)

  pub of_plus : (u z y : ℕ → ℤ) → of (λ c. u c +ℤ z c) y ≡ of u y +ℤ of z y
  of_plus u z y =
      ap (λ l. inner l (tab size y)) (tab_ext size (λ c. u c +ℤ z c) (λ c. at (tab size u) c +ℤ at (tab size z) c) (λ c l t. sym (at-tab size u c l) t +ℤ sym (at-tab size z c l) t))
      ∙ P.additive (tab size u) (tab size z) (tab size y) (tab-length size u) (tab-length size z) (tab-length size y)

  pub of_zero : (u y : ℕ → ℤ) → ((c : ℕ) → c < size → u c ≡ pos 0) → of u y ≡ pos 0
  of_zero u y h = of_ext u (λ c. pos 0 *ℤ u c) y (λ c l. h c l ∙ sym (zero-*ℤ (u c))) ∙ of_times (pos 0) u y ∙ zero-*ℤ (of u y)

  pub of_sum : (n : ℕ) (f : ℕ → ℕ → ℤ) (y : ℕ → ℤ) → of (λ c. sum_below n (λ i. f i c)) y ≡ sum_below n (λ i. of (f i) y)
  unfolding sum_below
  of_sum zero f y = of_zero (λ c. pos 0) y (λ c l. refl)
  of_sum (suc n) f y = of_plus (λ c. sum_below n (λ i. f i c)) (f n) y ∙ ap (λ z. z +ℤ of (f n) y) (of_sum n f y)

  of->0 : (u : ℕ → ℤ) (c : ℕ) → c < size → u c ≢ pos 0 → pos 0 <ℤ of u u
  of->0 u c l d = P.positive (tab size u) (tab-length size u) (λ e. d (sym (at-tab size u c l) ∙ ap (λ x. at x c) e ∙ at-tab size (λ c. pos 0) c l))

  pub of-≥0 : (u : ℕ → ℤ) → pos 0 ≤ℤ of u u
  of-≥0 u = ⊎_elim (λ h. level (of_zero u u h)) (λ h. <→≤ (of u u) (of->0 u h.0 h.1 h.2)) (zeros_or size u)
    where
      level : of u u ≡ pos 0 → pos 0 ≤ℤ of u u
      level e = omega (arith, ints)

  pub of-0 : (u : ℕ → ℤ) → of u u ≡ pos 0 → (c : ℕ) → c < size → u c ≡ pos 0
  of-0 u e c l = ⊎_elim (λ h. h c l) (λ h. absurd (not_both (of u u) (of->0 u h.0 h.1 h.2) e)) (zeros_or size u)

  pub of_square : (u z : ℕ → ℤ) → of (λ c. u c +ℤ z c) (λ c. u c +ℤ z c) ≡ of u u +ℤ (of z z +ℤ pos 2 *ℤ of z u)
  of_square u z = of_plus u z both ∙ (λ t. from u t +ℤ from z t) ∙ ap (λ y. of u u +ℤ y +ℤ (of z u +ℤ of z z)) (of_sym u z)
      ∙ ring (of u u ∷ of z u ∷ of z z ∷ []) (v 0 ⊕ v 1 ⊕ (v 1 ⊕ v 2)) (v 0 ⊕ (v 2 ⊕ k (pos 2) ⊗ v 1)) tt
    where
      both : ℕ → ℤ
      both c = u c +ℤ z c

      from : (y : ℕ → ℤ) → of y both ≡ of y u +ℤ of y z
      from y = of_sym y both ∙ of_plus u z y ∙ (λ t. of_sym u y t +ℤ of_sym z y t)

  -- ---- sums of weighted squares
  abbrev pub total : (n : ℕ) (w : ℕ → ℤ) (u : ℕ → ℕ → ℤ) → ℤ
  total n w u = sum_below n (λ s. w s *ℤ of (u s) (u s))

  -- a factor comes out squared; where the weight is 0, nothing is asked
  pub total_scale : (n : ℕ) (w : ℕ → ℤ) (a : ℤ) (u z : ℕ → ℕ → ℤ) → ((s : ℕ) → s < n → (w s ≡ pos 0) ⊎ ((c : ℕ) → c < size → u s c ≡ a *ℤ z s c))
      → total n w u ≡ a *ℤ a *ℤ total n w z
  total_scale n w a u z h = sum_ext n (λ s l. ⊎_elim (idle s) (moved s) (h s l)) ∙ sum_scale n (a *ℤ a) (λ s. w s *ℤ of (z s) (z s))
    where
      idle : (s : ℕ) → w s ≡ pos 0 → w s *ℤ of (u s) (u s) ≡ a *ℤ a *ℤ (w s *ℤ of (z s) (z s))
      idle s e =
          ap (λ x. x *ℤ of (u s) (u s)) e ∙ zero-*ℤ (of (u s) (u s))
          ∙ sym (ap (λ x. a *ℤ a *ℤ (x *ℤ of (z s) (z s))) e ∙ ring (a ∷ of (z s) (z s) ∷ []) (v 0 ⊗ v 0 ⊗ (k (pos 0) ⊗ v 1)) (k (pos 0)) tt)

      moved : (s : ℕ) → ((c : ℕ) → c < size → u s c ≡ a *ℤ z s c) → w s *ℤ of (u s) (u s) ≡ a *ℤ a *ℤ (w s *ℤ of (z s) (z s))
      moved s e =
          ap (λ x. w s *ℤ x)
          (ap (λ l. inner l l) (tab_ext size (u s) (λ c. a *ℤ z s c) e) ∙ of_times a (z s) (λ c. a *ℤ z s c)
          ∙ ap (λ x. a *ℤ x) (of_sym (z s) (λ c. a *ℤ z s c) ∙ of_times a (z s) (z s)))
          ∙ ring (w s ∷ a ∷ of (z s) (z s) ∷ []) (v 0 ⊗ (v 1 ⊗ (v 1 ⊗ v 2))) (v 1 ⊗ v 1 ⊗ (v 0 ⊗ v 2)) tt
