-- Sizes of products and sums.
use Rattle.std.proofs.Common.{◌≡◌, ℕ, zero, suc, ◌+◌, ◌*◌, ◌^◌, ◌<◌, ◌≤◌, ℤ, pos, negsuc, ◌+ℤ◌, ◌-ℤ◌, ◌*ℤ◌, neg_ℤ, nat_abs, ◌≤ℤ◌, sym, refl, subst, mul-le-mul, arith, w64, SFits}
use borrow.Author.Differences.{ints}
use Rattle.whole.specs.Sums.{sum_below}

pub nat_abs_neg : (a : ℤ) → nat_abs (neg_ℤ a) ≡ nat_abs a
nat_abs_neg (pos zero) = refl
nat_abs_neg (pos (suc n)) = refl
nat_abs_neg (negsuc n) = refl

pub nat_abs-* : (a b : ℤ) → nat_abs (a *ℤ b) ≡ nat_abs a * nat_abs b
nat_abs-* (pos a) (pos b) = refl
nat_abs-* (pos a) (negsuc b) = nat_abs_neg (pos (a * suc b))
nat_abs-* (negsuc a) (pos b) = nat_abs_neg (pos (suc a * b))
nat_abs-* (negsuc a) (negsuc b) = refl

pub nat_abs-+ : (a b : ℤ) → nat_abs (a +ℤ b) ≤ nat_abs a + nat_abs b
nat_abs-+ a b = omega (arith, ints)

-- a number that is not below 0 is its size
pub size_of : (a : ℤ) → pos 0 ≤ℤ a → pos (nat_abs a) ≡ a
size_of (pos n) h = refl
size_of (negsuc n) h = absurd (omega (arith, ints))

pub nat_abs-- : (a b : ℤ) → nat_abs (a -ℤ b) ≤ nat_abs a + nat_abs b
nat_abs-- a b = omega (arith, ints)

pub product-≤ : (a b : ℤ) (A B : ℕ) → nat_abs a ≤ A → nat_abs b ≤ B → nat_abs (a *ℤ b) ≤ A * B
product-≤ a b A B h k = subst (λ (z : ℕ). z ≤ A * B) (sym (nat_abs-* a b)) (mul-le-mul h k)

pub sum-≤ : (n : ℕ) (f : ℕ → ℤ) (M : ℕ) → ((i : ℕ) → i < n → nat_abs (f i) ≤ M) → nat_abs (sum_below n f) ≤ n * M
unfolding sum_below
sum-≤ zero f M h = omega arith
sum-≤ (suc n) f M h = let a = sum-≤ n f M (λ i l. h i (omega arith)) in let b = h n (omega arith) in omega (arith, nat_abs-+ (sum_below n f) (f n))

-- what is below 2^63 in size fits 64 signed bits
pub fits : (a : ℤ) → nat_abs a < 2 ^ 63 → SFits w64 a
fits (pos n) h = record { sfits = h }
fits (negsuc n) h = record { sfits = omega arith }
