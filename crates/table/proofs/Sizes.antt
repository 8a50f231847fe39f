-- Sizes of the numbers of a step.
use Rattle.std.proofs.Common.{ℕ, zero, suc, ◌/◌, ◌<◌, ◌≤◌, List, [], ◌∷◌, ℤ, pos, negsuc, ◌-ℤ◌, ◌*ℤ◌, neg_ℤ, nat_abs, ◌<ℤ◌, fold, div-le_self, arith, w64, SFits}
use native.Mathlib.Nat.{le_of_dvd}
use lib.Signed.{quot_z, mag}
use borrow.Author.Differences.{ints}
use Rattle.whole.specs.Gcd.{gcd, gcd_all}
use Rattle.whole.specs.Lists.{tab, at}
use Rattle.whole.proofs.Divisors.{gcd-right}
use Rattle.whole.proofs.Sizes.{product-≤, nat_abs--, fits}
use Rattle.linear.specs.Elimination.{table_limit}

-- twice the limit squared
abbrev pub room : ℕ
room = 9223372028264841218

module _ (p x q y : ℤ) (hp : nat_abs p ≤ table_limit) (hx : nat_abs x ≤ table_limit) (hq : nat_abs q ≤ table_limit) (hy : nat_abs y ≤ table_limit) where
  left-size : nat_abs (p *ℤ x) ≤ 4611686014132420609
  left-size = product-≤ p x table_limit table_limit hp hx

  right-size : nat_abs (q *ℤ y) ≤ 4611686014132420609
  right-size = product-≤ q y table_limit table_limit hq hy

  pub mix_size : nat_abs (p *ℤ x -ℤ q *ℤ y) ≤ room
  mix_size = let a = left-size in let b = right-size in let d = nat_abs-- (p *ℤ x) (q *ℤ y) in omega arith

  pub left-fits : SFits w64 (p *ℤ x)
  left-fits = fits (p *ℤ x) (let a = left-size in omega arith)

  pub right-fits : SFits w64 (q *ℤ y)
  right-fits = fits (q *ℤ y) (let b = right-size in omega arith)

  pub mix_fits : SFits w64 (p *ℤ x -ℤ q *ℤ y)
  mix_fits = fits (p *ℤ x -ℤ q *ℤ y) (let d = mix_size in omega arith)

-- a quotient fits where the number does
pub quot_fits : (x g : ℤ) → pos 1 <ℤ g → SFits w64 x → SFits w64 (quot_z x g)
quot_fits (pos a) (pos g) h f = record { sfits = omega (arith, f.sfits, div-le_self a g) }
quot_fits (negsuc a) (pos g) h f = record { sfits = omega (arith, f.sfits, mag_neg (suc a / g) a (div-le_self (suc a) g)) }
  where
    mag_neg : (n b : ℕ) → n ≤ suc b → mag (neg_ℤ (pos n)) ≤ b
    mag_neg zero b l = omega arith
    mag_neg (suc n) b l = omega arith
quot_fits x (negsuc g) h f = absurd (omega (arith, ints))

-- ---- a common divisor is no larger than a bound of the numbers
gcd_below : (a b n : ℕ) → a ≤ n → b ≤ n → gcd a b ≤ n
gcd_below a zero n h k = h
gcd_below a (suc b) n h k = let d = le_of_dvd {m = gcd a (suc b)} {n = suc b} (omega arith) (gcd-right a (suc b)) in omega arith

fold_below : (n : ℕ) (xs : List ℤ) (g : ℕ) → g ≤ n → ((j : ℕ) → nat_abs (at xs j) ≤ n) → fold (λ g x. gcd g (nat_abs x)) g xs ≤ n
fold_below n [] g h a = h
fold_below n (x ∷ xs) g h a = fold_below n xs (gcd g (nat_abs x)) (gcd_below g (nat_abs x) n h (a 0)) (λ j. a (suc j))

pub gcd_all_below : (n : ℕ) (xs : List ℤ) → ((j : ℕ) → nat_abs (at xs j) ≤ n) → gcd_all xs ≤ n
gcd_all_below n xs a = fold_below n xs 0 (omega arith) a

-- what holds of each number of a list below w, and of 0, holds at every place
pub tab-within : (n w : ℕ) (f : ℕ → ℤ) → ((j : ℕ) → j < w → nat_abs (f j) ≤ n) → (j : ℕ) → nat_abs (at (tab w f) j) ≤ n
tab-within n zero f h j = omega arith
tab-within n (suc w) f h zero = h 0 (omega arith)
tab-within n (suc w) f h (suc j) = tab-within n w (λ i. f (suc i)) (λ i l. h (suc i) (omega arith)) j
