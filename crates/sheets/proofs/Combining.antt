-- u + k × v by coordinates, where every product and sum fits.
use Rattle.std.proofs.Common.{◌≡◌, ℕ, ◌+◌, ◌*◌, ◌^◌, ◌<◌, ◌≤◌, cond, List, length, ℤ, pos, ◌+ℤ◌, ◌*ℤ◌, nat_abs, sym, ap, ◌∙◌, subst, arith}
use native.Mathlib.Decide.{dec_lt}
use borrow.Author.Differences.{ints}
use Rattle.std.proofs.lemmas.List.{get_or_past}
use Rattle.whole.specs.Lists.{at}
use Rattle.whole.proofs.Sizes.{nat_abs-+, product-≤}
use Rattle.kinds.specs.Coords.{plus_scaled}
use Rattle.kinds.specs.Outcomes.{all_fit}
use Rattle.kinds.proofs.Fitting.{length-plus_scaled, at-plus_scaled, all_fit_from, fits-within, combine_fits}

-- every coordinate is at most A in size
abbrev pub Within : ℕ → List ℤ → Type 0
Within A us = (c : ℕ) → nat_abs (at us c) ≤ A

-- the coordinates that there are decide it
pub within_all : (A size : ℕ) (us : List ℤ) → length us ≡ size → ((c : ℕ) → c < size → nat_abs (at us c) ≤ A) → Within A us
within_all A size us e h c = by (dec_lt c size)
  where
    by : Dec (c < size) → nat_abs (at us c) ≤ A
    by (yes l) = h c l
    by (no l) = subst (λ (z : ℤ). nat_abs z ≤ A) (sym (get_or_past us c (pos 0) (omega arith))) (omega arith)

pub plus-at : (us : List ℤ) (k : ℤ) (vs : List ℤ) → length us ≡ length vs → (c : ℕ) → at (plus_scaled us k vs) c ≡ at us c +ℤ k *ℤ at vs c
plus-at us k vs e c = by (dec_lt c (length us))
  where
    none : (a z : ℤ) → z ≡ pos 0 → a ≡ a +ℤ k *ℤ z
    none a z q = sym (ap (λ (y : ℤ). a +ℤ k *ℤ y) q ∙ zero)
      where
        zero : a +ℤ k *ℤ pos 0 ≡ a
        zero = omega (arith, ints)

    by : Dec (c < length us) → at (plus_scaled us k vs) c ≡ at us c +ℤ k *ℤ at vs c
    by (yes h) = at-plus_scaled us k vs c h
    by (no h) =
        let p = length-plus_scaled us k vs in
        get_or_past (plus_scaled us k vs) c (pos 0) (omega arith) ∙ sym (get_or_past us c (pos 0) (omega arith)) ∙ none (at us c) (at vs c) (get_or_past vs c (pos 0) (omega arith))

module _ (us : List ℤ) (k : ℤ) (vs ws : List ℤ) (A B C : ℕ) (room : A + B * C < 2 ^ 63) (e : length us ≡ length vs) (hk : nat_abs k ≤ B) (hu : Within A us) (hv : Within C vs)
    (is : ws ≡ cond (all_fit us k vs) (plus_scaled us k vs) us) where
  whole : ws ≡ plus_scaled us k vs
  whole = combine_fits us k vs ws is (all_fit_from us k vs (λ c _. fits-within A C B (at us c) k (at vs c) (hu c) (hv c) hk room))

  -- what combining gives, coordinate by coordinate
  pub combined-at : (c : ℕ) → at ws c ≡ at us c +ℤ k *ℤ at vs c
  combined-at c = ap (λ (l : List ℤ). at l c) whole ∙ plus-at us k vs e c

  pub combined-size : Within (A + B * C) ws
  combined-size c = subst (λ (z : ℤ). nat_abs z ≤ A + B * C) (sym (combined-at c)) (let a = product-≤ k (at vs c) B C hk (hv c) in let b = hu c in omega (arith, nat_abs-+ (at us c) (k *ℤ at vs c)))
