-- Inner products of coordinate lists.
use Rattle.std.specs.Prelude.{◌≡◌, ℕ, ◌≢◌, List, length, ℤ, pos, ◌+ℤ◌, ◌*ℤ◌, ◌<ℤ◌}
use Rattle.whole.specs.Lists.{tab, at}

-- The laws of an inner product of lists of `size` coordinates, each coordinate of any size.
pub record InnerProduct (size : ℕ) (inner : List ℤ → List ℤ → ℤ) : Type 0 where
  pub symmetric : (u v : List ℤ) → length u ≡ size → length v ≡ size → inner u v ≡ inner v u
  pub additive : (u v y : List ℤ) → length u ≡ size → length v ≡ size → length y ≡ size → inner (tab size (λ c. at u c +ℤ at v c)) y ≡ inner u y +ℤ inner v y
  pub factor : (k : ℤ) (u y : List ℤ) → length u ≡ size → length y ≡ size → inner (tab size (λ c. k *ℤ at u c)) y ≡ k *ℤ inner u y
  pub positive : (u : List ℤ) → length u ≡ size → u ≢ tab size (λ c. pos 0) → pos 0 <ℤ inner u u
