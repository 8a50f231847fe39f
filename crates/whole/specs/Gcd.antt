-- The greatest common divisor and the least common multiple.
use Rattle.std.specs.Prelude.{ℕ, zero, suc, ◌*◌, ◌/◌, ◌%◌, List, ℤ, fold, unsigned_abs}

-- Euclid's algorithm, with at most `fuel` remainders.
abbrev pub euclid : ℕ → ℕ → ℕ → ℕ
euclid zero a b = a
euclid (suc fuel) a zero = a
euclid (suc fuel) a (suc b) = euclid fuel (suc b) (a % suc b)

-- The remainders fall, so b + 1 of them are enough. Two zeros give 0.
abbrev pub gcd : ℕ → ℕ → ℕ
gcd a b = euclid (suc b) a b

-- The greatest common divisor of the sizes of a list's numbers; 0 when all are 0.
abbrev pub gcd_all : List ℤ → ℕ
gcd_all xs = fold (λ g x. gcd g (unsigned_abs x)) 0 xs

-- The least common multiple. A number divided by 0 is 0, so two zeros give 0.
abbrev pub lcm : ℕ → ℕ → ℕ
lcm a b = a / gcd a b * b
