-- What a row carries, term by term.
use Rattle.std.proofs.Common.{◌≡◌, ℕ, ◌+◌, ◌*◌, ◌^◌, ◌<◌, ◌≤◌, false, List, [], length, get_or, ℤ, pos, ◌+ℤ◌, ◌*ℤ◌, nat_abs, sym, refl, ap, ◌∙◌, subst, arith}
use Rattle.whole.specs.Lists.{at, coord}
use Rattle.whole.specs.Sums.{sum_below}
use Rattle.whole.proofs.Sizes.{product-≤, sum-≤}
use Rattle.whole.proofs.Tests.{any_false, above_false}
use Rattle.rules.specs.Values.{Coords}
use Rattle.rules.specs.Pulling.{some_above}
use Rattle.whole.proofs.Sums.{sum_more}
use Rattle.fractions.specs.Steps.{plus}
use Rattle.fractions.proofs.Adding.{added}

pub no_sum : (f : ℕ → ℤ) → pos 0 ≡ sum_below 0 f
unfolding sum_below
no_sum f = refl

-- factors at most A and values at most B in size, for at most m terms; k is the factor of term j, and x its value
module _ (size m A B C : ℕ) (factors : ℕ → ℤ) (us : List Coords) (room : m * (A * B) ≤ C) (most : C < 2 ^ 63) (limited : (j : ℕ) → j < m → nat_abs (factors j) ≤ A) (small : some_above B size m us ≡ false) where
  value-≤ : (j c : ℕ) → j < m → c < size → nat_abs (coord us j c) ≤ B
  value-≤ j c l h = above_false B (coord us j c) (any_false size _ (any_false m _ small j l) c h)

  term-≤ : (j c : ℕ) → j < m → c < size → nat_abs (factors j *ℤ coord us j c) ≤ A * B
  term-≤ j c l h = product-≤ (factors j) (coord us j c) A B (limited j l) (value-≤ j c l h)

  pub more : (j : ℕ) → j < m → (ws ys x : List ℤ) → length ws ≡ size → x ≡ get_or us j [] → ys ≡ plus ws (factors j) x
      → ((c : ℕ) → c < size → at ws c ≡ sum_below j (λ i. factors i *ℤ coord us i c)) → (c : ℕ) → c < size → at ys c ≡ sum_below (j + 1) (λ i. factors i *ℤ coord us i c)
  more j l ws ys x sized e is before =
      added size ws (factors j) x ys C (λ c. sum_below j (λ i. factors i *ℤ coord us i c)) (λ c. sum_below (j + 1) (λ i. factors i *ℤ coord us i c)) most sized is before
      (λ c h. ap (λ (y : Coords). sum_below j (λ i. factors i *ℤ coord us i c) +ℤ factors j *ℤ at y c) e ∙ sym (sum_more j (λ i. factors i *ℤ coord us i c)))
      (λ c h. subst (λ (y : Coords). nat_abs (factors j *ℤ at y c) ≤ C) (sym e) (single c h)) (λ c h. total c h)
    where
      single : (c : ℕ) → c < size → nat_abs (factors j *ℤ coord us j c) ≤ C
      single c h = let a = term-≤ j c l h in up m (A * B) C (nat_abs (factors j *ℤ coord us j c)) (omega arith) room a
        where
          up : (m t C x : ℕ) → 1 ≤ m → m * t ≤ C → x ≤ t → x ≤ C
          up m t C x p q r = let z : 1 * t ≤ m * t = native.Mathlib.Nat.mul-le-mul p (omega arith) in omega arith

      total : (c : ℕ) → c < size → nat_abs (sum_below (j + 1) (λ i. factors i *ℤ coord us i c)) ≤ C
      total c h =
          let a = sum-≤ (j + 1) (λ i. factors i *ℤ coord us i c) (A * B) (λ i k. term-≤ i c (omega arith) h) in
          let b : (j + 1) * (A * B) ≤ m * (A * B) = native.Mathlib.Nat.mul-le-mul (omega arith) (omega arith) in
          omega arith
