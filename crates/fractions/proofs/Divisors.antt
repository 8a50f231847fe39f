-- Common divisors, a list's numbers taken up one at a time.
use Rattle.std.proofs.Common.{◌≡◌, ℕ, zero, suc, ◌%◌, ◌<◌, ◌≤◌, List, [], ◌∷◌, ◌++◌, ℤ, nat_abs, refl, ap, ◌∙◌, arith}
use native.Mathlib.Nat.{le_of_dvd, dvd_refl, dvd_trans, pos_of_dvd_of_pos}
use Prim.Native.Nat.{◌∣◌}
use Rattle.whole.specs.Gcd.{gcd, gcd_all}
use Rattle.whole.proofs.Divisors.{gcd-left, gcd-step}
use Rattle.fractions.specs.Steps.{divisor_from}

pub gcd-0 : (a : ℕ) → gcd 0 a ≡ a
gcd-0 zero = refl
gcd-0 (suc a) = gcd-step 0 (suc a) (omega arith) ∙ ap (gcd (suc a)) none
  where
    none : 0 % suc a ≡ 0
    none = omega arith

pub divisor_of_all : (e : ℤ) (xs : List ℤ) → gcd_all (e ∷ xs) ≡ divisor_from (nat_abs e) xs
divisor_of_all e xs = ap (λ (g : ℕ). divisor_from g xs) (gcd-0 (nat_abs e))

pub divisor-divides : (a : ℕ) (xs : List ℤ) → divisor_from a xs ∣ a
divisor-divides a [] = dvd_refl a
divisor-divides a (x ∷ xs) = dvd_trans (divisor_from (gcd a (nat_abs x)) xs) (divisor-divides (gcd a (nat_abs x)) xs) (gcd-left a (nat_abs x))

pub divisor-above : (a : ℕ) (xs : List ℤ) → 0 < a → 0 < divisor_from a xs
divisor-above a xs h = pos_of_dvd_of_pos (divisor-divides a xs) h

pub divisor-≤ : (a : ℕ) (xs : List ℤ) → 0 < a → divisor_from a xs ≤ a
divisor-≤ a xs h = le_of_dvd h (divisor-divides a xs)

pub divisor-append : (a : ℕ) (xs ys : List ℤ) → divisor_from a (xs ++ ys) ≡ divisor_from (divisor_from a xs) ys
divisor-append a [] ys = refl
divisor-append a (x ∷ xs) ys = divisor-append (gcd a (nat_abs x)) xs ys
