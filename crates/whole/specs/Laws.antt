-- What the greatest common divisor and the least common multiple are.
use Rattle.std.specs.Prelude.{◌≡◌, ℕ, ◌<◌, ◌≤◌, ◌⊎◌, List, ℤ, pos, ◌*ℤ◌, int_div, unsigned_abs}
use Rattle.std.specs.Int.{◌∣◌}
use Rattle.whole.specs.Gcd.{gcd, gcd_all, lcm}
use Rattle.whole.specs.Lists.{at}

-- g divides a and b; every common divisor divides g, and is at most g unless a and b are both 0.
pub record GreatestDivisor (a b g : ℕ) : Type 0 where
  pub left : g ∣ a
  pub right : g ∣ b
  pub divided : (k : ℕ) → k ∣ a → k ∣ b → k ∣ g
  pub greatest : (k : ℕ) → k ∣ a → k ∣ b → (0 < a) ⊎ (0 < b) → k ≤ g

-- l is a multiple of a and b; it divides every common multiple, and of numbers above 0 it is the least above 0.
pub record LeastMultiple (a b l : ℕ) : Type 0 where
  pub left : a ∣ l
  pub right : b ∣ l
  pub divides : (k : ℕ) → a ∣ k → b ∣ k → l ∣ k
  pub above : 0 < a → 0 < b → 0 < l
  pub least : (k : ℕ) → 0 < k → a ∣ k → b ∣ k → l ≤ k

-- g divides the size of each number of the list, every such divisor divides g, and dividing by g loses nothing.
pub record GreatestOfAll (xs : List ℤ) (g : ℕ) : Type 0 where
  pub each : (i : ℕ) → g ∣ unsigned_abs (at xs i)
  pub divided : (k : ℕ) → ((i : ℕ) → k ∣ unsigned_abs (at xs i)) → k ∣ g
  pub exact : (i : ℕ) → pos g *ℤ int_div (at xs i) (pos g) ≡ at xs i

abbrev pub GcdGreatest : Type 0
GcdGreatest = ((a b : ℕ) → GreatestDivisor a b (gcd a b)) × (gcd 0 0 ≡ 0)

abbrev pub LcmLeast : Type 0
LcmLeast = (a b : ℕ) → LeastMultiple a b (lcm a b)

abbrev pub GcdAllGreatest : Type 0
GcdAllGreatest = (xs : List ℤ) → GreatestOfAll xs (gcd_all xs)
