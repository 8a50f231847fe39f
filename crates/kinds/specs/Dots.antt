-- The dot product is an inner product, with any number of coordinates.
use Rattle.std.specs.Prelude.{◌≡◌, ℕ, ◌<◌, ◌≤◌, ◌≢◌, List, length, ℤ, pos, ◌+ℤ◌, ◌*ℤ◌, ◌≤ℤ◌, ◌<ℤ◌, refl}
use Rattle.std.proofs.Common.{ap, ◌∙◌, ⊎_elim, arith}
use Rattle.std.proofs.Math.IntN.{*ℤ_comm}
use Rattle.whole.specs.Lists.{tab, at}
use Rattle.whole.proofs.Integers.{+-*, *-assoc, *-zero, square-≥0, above-0}
use Rattle.whole.proofs.Lists.{at-tab}
use Rattle.whole.proofs.Sums.{sum_ext, sum_add, sum_scale, sum-≥0, sum_all-0}
use Rattle.linear.specs.Products.{InnerProduct}
use Rattle.kinds.specs.Coords.{dot}
use Rattle.kinds.specs.Laws.{Laws}
use Rattle.kinds.specs.Models.{length_coords, point_coords}
use Rattle.kinds.specs.Lists.{all_zero}

-- squares add up to more than 0 unless each is of 0
positive : (n : ℕ) (u : List ℤ) → length u ≡ n → u ≢ tab n (λ c. pos 0) → pos 0 <ℤ dot n u u
positive n u e nz = above-0 (dot n u u) (λ z. nz (all_zero n u e (λ c l. ⊎_elim (λ q. q) (λ q. q) (*-zero (at u c) (at u c) (sum_all-0 n squares z c l))))) (sum-≥0 n squares)
  where
    squares : (c : ℕ) → c < n → pos 0 ≤ℤ (at u c *ℤ at u c)
    squares c l = square-≥0 (at u c)

pub dot_product : (n : ℕ) → InnerProduct n (dot n)
dot_product n = record {
  symmetric = λ u v _ _. sum_ext n (λ c _. *ℤ_comm (at u c) (at v c));
  additive = λ u v y _ _ _.
      sum_ext n (λ c l. ap (λ x. x *ℤ at y c) (at-tab n (λ c. at u c +ℤ at v c) c l) ∙ +-* (at u c) (at v c) (at y c))
      ∙ sum_add n (λ c. at u c *ℤ at y c) (λ c. at v c *ℤ at y c);
  factor = λ k u y _ _.
      sum_ext n (λ c l. ap (λ x. x *ℤ at y c) (at-tab n (λ c. k *ℤ at u c) c l) ∙ *-assoc k (at u c) (at y c))
      ∙ sum_scale n k (λ c. at u c *ℤ at y c);
  positive = positive n;
}

-- coordinates of one size, with the dot product, keep the laws of a kind
pub dot_laws : {K : Type 0} (size : ℕ) (coords : K → List ℤ) → 1 ≤ size → size ≤ 4 → ((v : K) → length (coords v) ≡ size) → Laws size coords (dot size)
dot_laws size coords some few sized = record { some = some; few = few; sized = sized; product = dot_product size }

pub length_laws : Laws 1 length_coords (dot 1)
length_laws = dot_laws 1 length_coords (omega arith) (omega arith) (λ v. refl)

pub point_laws : Laws 2 point_coords (dot 2)
point_laws = dot_laws 2 point_coords (omega arith) (omega arith) (λ v. refl)
