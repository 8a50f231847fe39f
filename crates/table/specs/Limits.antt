-- The limits on what a table is made of.
use Rattle.std.specs.Prelude.{ℕ, ◌<◌, ◌≤◌, Bool, ◌||◌, List, ℤ, nat_lt, unsigned_abs}
use Rattle.whole.specs.Lists.{at, coord}
use Rattle.whole.specs.Tests.{any, above}

-- There are more than 48 parameters or 12 relations, some v(s) is above 12 in size, or some coefficient above 1,000.
abbrev pub outside : ℕ → ℕ → List ℤ → List (List ℤ) → Bool
outside n m vs rs = nat_lt 48 n || nat_lt 12 m || any n (λ s. above 12 (at vs s)) || any m (λ i. any n (λ s. above 1000 (coord rs i s)))

-- Each of the first n numbers is at most `most` in size.
abbrev pub Within : ℕ → ℕ → List ℤ → Type 0
Within most n xs = (s : ℕ) → s < n → unsigned_abs (at xs s) ≤ most
