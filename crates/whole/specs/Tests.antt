-- Tests of numbers, and of the indices below a bound.
use Rattle.std.specs.Prelude.{ℕ, zero, suc, Bool, true, false, not, ◌||◌, ℤ, pos, negsuc, ◌-ℤ◌, nat_lt, unsigned_abs}

-- Some index below n passes the test.
abbrev pub any : ℕ → (ℕ → Bool) → Bool
any zero p = false
any (suc n) p = any n p || p n

-- How many indices below n pass the test.
abbrev pub tally : ℕ → (ℕ → Bool) → ℕ
tally zero p = 0
tally (suc n) p = elim (p n) [ true ↦ suc (tally n p) | false ↦ tally n p ]

-- x is above the limit in size.
abbrev pub above : ℕ → ℤ → Bool
above limit x = nat_lt limit (unsigned_abs x)

abbrev pub is_zero : ℤ → Bool
is_zero (pos zero) = true
is_zero (pos (suc n)) = false
is_zero (negsuc n) = false

abbrev pub nonzero : ℤ → Bool
nonzero x = not (is_zero x)

abbrev pub differ : ℤ → ℤ → Bool
differ x y = nonzero (x -ℤ y)
