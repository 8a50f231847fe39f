-- What is not outside the limits is within each of them.
use Rattle.std.proofs.Common.{◌≡◌, ℕ, ◌<◌, ◌≤◌, false, ltb, List, [], get_or, ℤ}
use Rattle.std.proofs.lemmas.Bool.{or_parts, ltb-false}
use Rattle.whole.specs.Lists.{at, coord}
use Rattle.whole.specs.Tests.{any, above}
use Rattle.whole.proofs.Tests.{any_false, above_false}
use Rattle.table.specs.Limits.{outside, Within}

pub within_all : (most n : ℕ) (xs : List ℤ) → any n (λ s. above most (at xs s)) ≡ false → Within most n xs
within_all most n xs e s h = above_false most (at xs s) (any_false n (λ s. above most (at xs s)) e s h)

pub record Inside (n m : ℕ) (vs : List ℤ) (rs : List (List ℤ)) : Type 0 where
  pub parameters : n ≤ 48
  pub relations : m ≤ 12
  pub shares : Within 12 n vs
  pub rows : (a : ℕ) → a < m → Within 1000 n (get_or rs a [])

pub inside : (n m : ℕ) (vs : List ℤ) (rs : List (List ℤ)) → outside n m vs rs ≡ false → Inside n m vs rs
inside n m vs rs e =
    let p = or_parts _ (any m (λ i. any n (λ s. above 1000 (coord rs i s)))) e in
    let q = or_parts _ (any n (λ s. above 12 (at vs s))) p.0 in
    let r = or_parts (ltb 48 n) (ltb 12 m) q.0 in
    record {
      parameters = ltb-false 48 n r.0;
      relations = ltb-false 12 m r.1;
      shares = within_all 12 n vs q.1;
      rows = λ a h. within_all 1000 n (get_or rs a []) (any_false m (λ i. any n (λ s. above 1000 (coord rs i s))) p.1 a h);
    }
