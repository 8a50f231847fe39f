-- The multipliers that stay are within their limit.
use Rattle.std.proofs.Common.{◌≡◌, ℕ, ◌/◌, ◌<◌, Bool, true, false, cond, ◌&&◌, ◌||◌, ltb, List, [], length, get_or, pos, ◌*ℤ◌, refl, ap, ◌∙◌, arith}
use Rattle.std.proofs.lemmas.Bool.{or_parts, ltb-false}
use Rattle.whole.specs.Lists.{at, coord}
use Rattle.whole.specs.Tests.{any, above}
use Rattle.whole.proofs.Lists.{get_or-tab, at-tab}
use Rattle.whole.proofs.Tests.{any_false, none_any, any_ext}
use Rattle.rules.specs.Values.{Coords}
use Rattle.rules.specs.Pulling.{some_above}
use Rattle.fractions.specs.Multiple.{times, strays, multiplied}
use Rattle.pulls.specs.Finish.{all_multiplied}

module _ (size l : ℕ) (ps : List ℕ) (us : List Coords) (spare : (i : ℕ) → i < length ps → get_or ps i 0 ≡ 0 → (c : ℕ) → c < size → coord us i c ≡ pos 0) where
  -- the multiplier of row i
  pub at_row : (i : ℕ) → i < length ps → get_or (all_multiplied size l ps us) i [] ≡ multiplied size l (get_or ps i 0) (get_or us i [])
  at_row i b = get_or-tab (length ps) (λ i. multiplied size l (get_or ps i 0) (get_or us i [])) [] i b

  pub within : any (length ps) (λ i. strays size l (get_or ps i 0) (get_or us i [])) ≡ false → some_above 1000000000000 size (length ps) (all_multiplied size l ps us) ≡ false
  within e = none_any (length ps) (λ i. any size (λ c. above 1000000000000 (coord (all_multiplied size l ps us) i c))) (λ i b. ap (λ (x : Coords). any size (λ c. above 1000000000000 (at x c))) (at_row i b) ∙ by i b (ltb 0 (get_or ps i 0)) refl (any_false (length ps) (λ i. strays size l (get_or ps i 0) (get_or us i [])) e i b))
    where
      by : (i : ℕ) → i < length ps → (t : Bool) → ltb 0 (get_or ps i 0) ≡ t
          → (t && (any size (λ c. above 2147483647 (coord us i c)) || any size (λ c. above 1000000000000 (pos (l / get_or ps i 0) *ℤ coord us i c)))) ≡ false
          → any size (λ c. above 1000000000000 (at (cond t (times size l (get_or ps i 0) (get_or us i [])) (get_or us i [])) c)) ≡ false
      by i b true p h = any_ext size _ _ (λ c k. ap (above 1000000000000) (at-tab size (λ c. pos (l / get_or ps i 0) *ℤ coord us i c) c k)) ∙ (or_parts (any size (λ c. above 2147483647 (coord us i c))) _ h).1
      by i b false p h = none_any size (λ c. above 1000000000000 (coord us i c)) (λ c k. ap (above 1000000000000) (spare i b zero c k))
        where
          zero : get_or ps i 0 ≡ 0
          zero = let a = ltb-false 0 (get_or ps i 0) p in omega arith
