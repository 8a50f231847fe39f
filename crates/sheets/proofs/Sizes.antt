-- Limits on numbers and on the first values of a list.
use Rattle.std.proofs.Common.{◌≡◌, ℕ, ◌<◌, ◌≤◌, Bool, true, false, List, [], map, length, get_or, take, ℤ, pos, nat_abs, sym, refl, ap, ◌∙◌, arith, get_or-take}
use Rattle.std.proofs.lemmas.List.{take-map, length-take-le}
use Rattle.whole.specs.Lists.{coord}
use Rattle.whole.specs.Tests.{any, above}
use Rattle.whole.proofs.Tests.{above_false, any_ext}

pub beyond-above : (limit : ℕ) (x : ℤ) → limit < nat_abs x → above limit x ≡ true
beyond-above limit x h = by (above limit x) refl
  where
    clash : nat_abs x ≤ limit → ⊥
    clash k = omega arith

    by : (b : Bool) → above limit x ≡ b → b ≡ true
    by true e = refl
    by false e = absurd (clash (above_false limit x e))

-- a coordinate of one of the first n values
pub coord_front : {K : Type 0} (f : K → List ℤ) (n : ℕ) (xs : List K) (s c : ℕ) → s < n → coord (map f (take n xs)) s c ≡ coord (map f xs) s c
coord_front f n xs s c h = ap (λ (us : List (List ℤ)). coord us s c) (sym (take-map f n xs)) ∙ ap (λ (u : List ℤ). get_or u c (pos 0)) (get_or-take n (map f xs) s [] h)

-- the test of the first n values, as a part of the list has them
pub front_above : {K : Type 0} (f : K → List ℤ) (size n limit : ℕ) (xs : List K) → n ≤ length xs
    → any (length (take n xs)) (λ s. any size (λ c. above limit (coord (map f (take n xs)) s c))) ≡ any n (λ s. any size (λ c. above limit (coord (map f xs) s c)))
front_above f size n limit xs h =
    ap (λ (k : ℕ). any k (λ s. any size (λ c. above limit (coord (map f (take n xs)) s c)))) (length-take-le n xs h)
    ∙ any_ext n _ _ (λ s b. any_ext size _ _ (λ c _. ap (above limit) (coord_front f n xs s c b)))
