-- What every kind of value keeps.
use Rattle.std.specs.Prelude.{◌≡◌, ℕ, ◌≤◌, List, length, ℤ}
use Rattle.linear.specs.Products.{InnerProduct}

-- Every value has `size` coordinates, from 1 to 4 of them, and `inner` is an inner product of such lists.
pub record Laws {K : Type 0} (size : ℕ) (coords : K → List ℤ) (inner : List ℤ → List ℤ → ℤ) : Type 0 where
  pub some : 1 ≤ size
  pub few : size ≤ 4
  pub sized : (v : K) → length (coords v) ≡ size
  pub product : InnerProduct size inner
