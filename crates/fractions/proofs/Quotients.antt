-- A quotient by a number above 0; that of a number of 64 signed bits has 64 signed bits.
use Rattle.std.proofs.Common.{◌≡◌, ℕ, Bool, cond, ap, zero, suc, ◌/◌, ◌^◌, ◌<◌, ◌≤◌, ℤ, pos, negsuc, neg_ℤ, ◌≤ℤ◌, div-le_self, arith, w64, SFits}
use lib.Signed.{quot_z}
use borrow.Author.Differences.{ints}
use Rattle.std.proofs.lemmas.Bool.{le-ltb}
use Rattle.rules.specs.Values.{Coords}
use Rattle.fractions.specs.Steps.{divided, quotients}

negative : (n a : ℕ) → n ≤ suc a → a < 2 ^ 63 → SFits w64 (neg_ℤ (pos n))
negative zero a h k = record { sfits = omega arith }
negative (suc n) a h k = record { sfits = omega arith }

pub quotient_fits : (a g : ℤ) → pos 1 ≤ℤ g → SFits w64 a → SFits w64 (quot_z a g)
quotient_fits (pos a) (pos g) h f = let l = div-le_self a g in record { sfits = omega (arith, f.sfits) }
quotient_fits (negsuc a) (pos g) h f = negative (suc a / g) a (div-le_self (suc a) g) (omega (arith, f.sfits))
quotient_fits (pos a) (negsuc g) h f = absurd (omega (arith, ints))
quotient_fits (negsuc a) (negsuc g) h f = absurd (omega (arith, ints))

pub divided-above : (size h : ℕ) (us : Coords) → 0 < h → divided size us (pos h) ≡ quotients size us (pos h)
divided-above size h us a = ap (λ (b : Bool). cond b us (quotients size us (pos h))) (le-ltb h 1 a)
