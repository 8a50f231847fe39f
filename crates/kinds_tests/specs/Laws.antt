-- The weighted product of three coordinates keeps the laws of a kind.
use Rattle.std.specs.Prelude.{◌≡◌, ℕ, suc, ◌≢◌, List, length, ℤ, pos, ◌+ℤ◌, ◌*ℤ◌, ◌≤ℤ◌, ◌<ℤ◌, refl}
use Rattle.std.proofs.Common.{sym, ap, ◌∙◌, ⊎_elim, arith}
use Rattle.std.proofs.Math.IntN.{*ℤ_comm}
use Rattle.std.proofs.lemmas.Int.{ints}
use Rattle.whole.specs.Lists.{tab, at}
use Rattle.whole.proofs.Integers.{*-+, +-*, *-assoc, above-0, not_both}
use Rattle.whole.proofs.Lists.{at-tab}
use Rattle.whole.proofs.Sums.{sum_ext, sum_add, sum_scale, squares-≥0, squares-0}
use Rattle.linear.specs.Products.{InnerProduct}
use Rattle.kinds.specs.Laws.{Laws}
use Rattle.kinds.specs.Lists.{all_zero}
use Rattle.kinds_tests.specs.Solid.{solid_coords, solid_inner}

split : (w u v y : ℤ) → w *ℤ ((u +ℤ v) *ℤ y) ≡ w *ℤ (u *ℤ y) +ℤ w *ℤ (v *ℤ y)
split w u v y = ap (λ z. w *ℤ z) (+-* u v y) ∙ *-+ w (u *ℤ y) (v *ℤ y)

out : (w k u y : ℤ) → w *ℤ ((k *ℤ u) *ℤ y) ≡ k *ℤ (w *ℤ (u *ℤ y))
out w k u y = ap (λ z. w *ℤ z) (*-assoc k u y) ∙ sym (*-assoc w k (u *ℤ y)) ∙ ap (λ z. z *ℤ (u *ℤ y)) (*ℤ_comm w k) ∙ *-assoc k w (u *ℤ y)

positive : (u : List ℤ) → length u ≡ 3 → u ≢ tab 3 (λ c. pos 0) → pos 0 <ℤ solid_inner u u
positive u e nz =
    above-0 (solid_inner u u)
    (λ z. nz (all_zero 3 u e (λ c l. ⊎_elim (λ q. absurd (not_both (pos (suc c)) (above c) q)) (λ q. q) (squares-0 3 (λ c. pos (suc c)) (at u) (λ c l. least c) z c l))))
    (squares-≥0 3 (λ c. pos (suc c)) (at u) (λ c l. least c))
  where
    above : (c : ℕ) → pos 0 <ℤ pos (suc c)
    above c = omega (arith, ints)

    least : (c : ℕ) → pos 0 ≤ℤ pos (suc c)
    least c = omega (arith, ints)

solid_product : InnerProduct 3 solid_inner
solid_product = record {
  symmetric = λ u v _ _. sum_ext 3 (λ c _. ap (λ z. pos (suc c) *ℤ z) (*ℤ_comm (at u c) (at v c)));
  additive = λ u v y _ _ _.
      sum_ext 3 (λ c l. ap (λ z. pos (suc c) *ℤ (z *ℤ at y c)) (at-tab 3 (λ c. at u c +ℤ at v c) c l) ∙ split (pos (suc c)) (at u c) (at v c) (at y c))
      ∙ sum_add 3 (λ c. pos (suc c) *ℤ (at u c *ℤ at y c)) (λ c. pos (suc c) *ℤ (at v c *ℤ at y c));
  factor = λ k u y _ _.
      sum_ext 3 (λ c l. ap (λ z. pos (suc c) *ℤ (z *ℤ at y c)) (at-tab 3 (λ c. k *ℤ at u c) c l) ∙ out (pos (suc c)) k (at u c) (at y c))
      ∙ sum_scale 3 k (λ c. pos (suc c) *ℤ (at u c *ℤ at y c));
  positive = positive;
}

pub solid_laws : Laws 3 solid_coords solid_inner
solid_laws = record { some = omega arith; few = omega arith; sized = λ v. refl; product = solid_product }
