-- The sum of coefficient × value, term by term.
use Rattle.std.proofs.Common.{◌≡◌, ℕ, zero, suc, ◌+◌, ◌*◌, ◌<◌, ◌≤◌, cond, List, [], length, get_or, replicate, ℤ, pos, negsuc, ◌+ℤ◌, ◌-ℤ◌, ◌*ℤ◌, neg_ℤ, nat_abs, sym, refl, ap, ◌∙◌, subst, ap₂, arith, get_or-take}
use borrow.Author.Differences.{ints}
use Rattle.std.proofs.lemmas.List.{length-replicate}
use Rattle.whole.specs.Lists.{at, coord}
use Rattle.whole.specs.Sums.{sum_below}
use Rattle.whole.specs.Tests.{above, nonzero, differ}
use Rattle.whole.proofs.Sizes.{nat_abs_neg}
use Rattle.whole.proofs.Integers.{neg-*}
use Rattle.whole.proofs.Lists.{zeros-at}
use Rattle.whole.proofs.Sums.{sum_ext, sum_more}
use Rattle.kinds.specs.Coords.{plus_scaled}
use Rattle.kinds.specs.Outcomes.{all_fit}
use Rattle.rules.specs.Sheets.{bond}
use Rattle.sheets.specs.Gap.{gap_at}
use Rattle.sheets.proofs.Sizes.{beyond-above}
use Rattle.sheets.proofs.Combining.{Within, within_all, combined-at, combined-size}

pub above-nonzero : (x : ℤ) → above 0 x ≡ nonzero x
above-nonzero (pos zero) = refl
above-nonzero (pos (suc n)) = beyond-above 0 (pos (suc n)) (omega arith)
above-nonzero (negsuc n) = beyond-above 0 (negsuc n) (omega arith)

-- 1,000 × 47,560 × 45,000, the largest term
abbrev pub term : ℕ
term = 2140200000000

pub sum-none : (a : ℤ) (f : ℕ → ℤ) → a ≡ a +ℤ sum_below 0 f
unfolding sum_below
sum-none a f = omega (arith, ints)

-- the first step: − d × the constant
module _ (size : ℕ) (d : ℤ) (q us ws : List ℤ) (sized : length q ≡ size) (high : nat_abs d ≤ 45000) (small : (c : ℕ) → c < size → nat_abs (at q c) ≤ 47560000)
    (zero_is : us ≡ replicate size (pos 0)) (is : ws ≡ cond (all_fit us (neg_ℤ d) q) (plus_scaled us (neg_ℤ d) q) us) where
  same : length us ≡ length q
  same = ap length zero_is ∙ length-replicate size (pos 0) ∙ sym sized

  negated : nat_abs (neg_ℤ d) ≤ 45000
  negated = subst (λ (n : ℕ). n ≤ 45000) (sym (nat_abs_neg d)) high

  none : (c : ℕ) → at us c ≡ pos 0
  none c = ap (λ (l : List ℤ). at l c) zero_is ∙ zeros-at size c

  nothing : Within 0 us
  nothing c = subst (λ (z : ℤ). nat_abs z ≤ 0) (sym (none c)) (omega arith)

  pub start-at : (c : ℕ) → at ws c ≡ neg_ℤ d *ℤ at q c
  start-at c =
      combined-at us (neg_ℤ d) q ws 0 45000 47560000 (omega arith) same negated nothing (within_all 47560000 size q sized small) is c
      ∙ moved (at us c) (neg_ℤ d *ℤ at q c) (none c)
    where
      moved : (a b : ℤ) → a ≡ pos 0 → a +ℤ b ≡ b
      moved a b e = omega (arith, ints)

  pub start-size : Within (term * (0 + 1)) ws
  start-size = combined-size us (neg_ℤ d) q ws 0 45000 47560000 (omega arith) same negated nothing (within_all 47560000 size q sized small) is

-- one term more
module _ (size s : ℕ) (base : ℕ → ℤ) (vs : List (List ℤ)) (cs us v ws : List ℤ) (k : ℤ) (few : s < 48) (reading : k ≡ at cs s) (value : v ≡ get_or vs s []) (same : length us ≡ length v) (sized : length v ≡ size)
    (coefficient : nat_abs (at cs s) ≤ 1000) (small : (c : ℕ) → c < size → nat_abs (coord vs s c) ≤ 2140200000)
    (so_far : (c : ℕ) → at us c ≡ base c +ℤ sum_below s (λ p. at cs p *ℤ coord vs p c)) (size-so-far : Within (term * (s + 1)) us) (is : ws ≡ cond (all_fit us k v) (plus_scaled us k v) us) where
  factor : nat_abs k ≤ 1000
  factor = subst (λ (z : ℤ). nat_abs z ≤ 1000) (sym reading) coefficient

  within : Within 2140200000 v
  within = within_all 2140200000 size v sized (λ c l. subst (λ (u : List ℤ). nat_abs (at u c) ≤ 2140200000) (sym value) (small c l))

  pub more_at : (c : ℕ) → at ws c ≡ base c +ℤ sum_below (s + 1) (λ p. at cs p *ℤ coord vs p c)
  more_at c =
      combined-at us k v ws (term * (s + 1)) 1000 2140200000 (omega arith) same factor size-so-far within is c
      ∙ ap₂ (λ (a b : ℤ). a +ℤ b) (so_far c) (ap₂ (λ (z : ℤ) (u : List ℤ). z *ℤ at u c) reading value)
      ∙ grouped (base c) (sum_below s (λ p. at cs p *ℤ coord vs p c)) (at cs s *ℤ coord vs s c)
      ∙ ap (λ (z : ℤ). base c +ℤ z) (sym (sum_more s (λ p. at cs p *ℤ coord vs p c)))
    where
      grouped : (a b e : ℤ) → (a +ℤ b) +ℤ e ≡ a +ℤ (b +ℤ e)
      grouped a b e = omega (arith, ints)

  pub more_size : Within (term * (s + 1 + 1)) ws
  more_size c = let a = combined-size us k v ws (term * (s + 1)) 1000 2140200000 (omega arith) same factor size-so-far within is c in omega arith

-- a gap is above 0 in size exactly where the two sides of the relation differ
pub gap_differs : (n : ℕ) (d : ℤ) (vs : List (List ℤ)) (cs q : List ℤ) (z : ℤ) (c : ℕ) → z ≡ gap_at n d vs cs q c
    → above 0 z ≡ differ (sum_below n (λ s. at (bond n cs q).coefs s *ℤ coord vs s c)) (d *ℤ at (bond n cs q).constant c)
gap_differs n d vs cs q z c e = above-nonzero z ∙ ap nonzero (e ∙ turned (at q c) (sum_below n (λ s. at cs s *ℤ coord vs s c))
    ∙ ap (λ (x : ℤ). x -ℤ d *ℤ at q c) (sum_ext n (λ s l. ap (λ (x : ℤ). x *ℤ coord vs s c) (sym (get_or-take n cs s (pos 0) l)))))
  where
    turned : (a b : ℤ) → neg_ℤ d *ℤ a +ℤ b ≡ b -ℤ d *ℤ a
    turned a b = ap (λ (x : ℤ). x +ℤ b) (neg-* d a) ∙ swapped (d *ℤ a)
      where
        swapped : (x : ℤ) → neg_ℤ x +ℤ b ≡ b -ℤ x
        swapped x = omega (arith, ints)
