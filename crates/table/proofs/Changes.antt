-- The parts of a row's change, put together.
use Rattle.std.proofs.Common.{◌≡◌, ℕ, zero, suc, ◌<◌, length, ◌-ℤ◌, ◌≤◌, List, [], ◌∷◌, ◌++◌, map, take, drop, ℤ, pos, ◌*ℤ◌, nat_abs, sym, refl, ap, ◌∙◌, ap₂, arith}
use lib.IntN.{zero-*ℤ}
use lib.Signed.{quot_z}
use Rattle.std.proofs.lemmas.List.{get_or-take, length-take-le}
use Rattle.whole.specs.Gcd.{gcd_all}
use Rattle.whole.specs.Lists.{at}
use Rattle.whole.proofs.Divisors.{gcd_all_is}
use Rattle.whole.proofs.Integers.{one-*}
use Rattle.whole.proofs.Lists.{tab_ext}
use Rattle.linear.specs.Elimination.{reduced, table_limit}
use Rattle.table.specs.Rows.{mixed, changed}
use Rattle.table.proofs.Sizes.{room, mix_size, gcd_all_below, tab-within}

-- dividing by 1 changes nothing, and where the divisor is 0 all numbers are 0
quot_small : (g : ℕ) (x : ℤ) → g ≤ 1 → pos g *ℤ quot_z x (pos g) ≡ x → quot_z x (pos g) ≡ x
quot_small zero x h e = let z : x ≡ pos 0 = sym e ∙ zero-*ℤ (quot_z x (pos 0)) in ap (λ (y : ℤ). quot_z y (pos 0)) z ∙ sym z
quot_small (suc zero) x h e = sym (one-* (quot_z x (pos 1))) ∙ e
quot_small (suc (suc g)) x h e = absurd (omega arith)

map_same : (f : ℤ → ℤ) (xs : List ℤ) → ((i : ℕ) → f (at xs i) ≡ at xs i) → map f xs ≡ xs
map_same f [] h = refl
map_same f (x ∷ xs) h = ap₂ ◌∷◌ (h 0) (map_same f xs (λ i. h (suc i)))

reduced-same : (xs : List ℤ) → gcd_all xs ≤ 1 → reduced xs ≡ xs
reduced-same xs h = map_same (λ x. quot_z x (pos (gcd_all xs))) xs (λ i. quot_small (gcd_all xs) (at xs i) h ((gcd_all_is xs).exact i))

-- `mid` is the row's front with the pivot row mixed in, and g the greatest common divisor of its numbers
module _ (w : ℕ) (p q : ℤ) (xs ys mid : List ℤ) (g : ℕ) (long : w ≤ length xs) (is : mid ≡ mixed (length (take w xs)) p q (take w xs) ys) (divisor : g ≡ gcd_all mid) where
  front : mid ≡ mixed w p q xs ys
  front =
      is ∙ ap (λ (n : ℕ). mixed n p q (take w xs) ys) (length-take-le w xs long)
      ∙ tab_ext w _ _ (λ j l. ap (λ (x : ℤ). p *ℤ x -ℤ q *ℤ at ys j) (get_or-take w xs j (pos 0) l))

  divisor_is : g ≡ gcd_all (mixed w p q xs ys)
  divisor_is = divisor ∙ ap gcd_all front

  pub divided_is : (last : List ℤ) → last ≡ map (λ x. quot_z x (pos g)) mid → last ++ drop w xs ≡ changed w p q xs ys
  divided_is last e = λ i. (e ∙ (λ j. map (λ x. quot_z x (pos (divisor_is j))) (front j))) i ++ drop w xs

  pub left_is : g ≤ 1 → mid ++ drop w xs ≡ changed w p q xs ys
  left_is h = ap (λ l. l ++ drop w xs) (front ∙ sym (reduced-same (mixed w p q xs ys) (let e = divisor_is in omega arith)))

  pub divisor-size : nat_abs p ≤ table_limit → nat_abs q ≤ table_limit → ((j : ℕ) → j < w → nat_abs (at xs j) ≤ table_limit) → ((j : ℕ) → j < w → nat_abs (at ys j) ≤ table_limit) → g ≤ room
  divisor-size hp hq hx hy =
      let e = divisor_is in
      let b = gcd_all_below room (mixed w p q xs ys) (tab-within room w _ (λ j l. mix_size p (at xs j) q (at ys j) hp (hx j l) hq (hy j l))) in
      omega arith
