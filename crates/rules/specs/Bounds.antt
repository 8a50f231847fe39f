-- Bounds on the numbers that the calls work out, partial sums included: each fits 64 signed bits.
use Rattle.std.specs.Prelude.{◌≡◌, ℕ, ◌+◌, ◌*◌, ◌/◌, ◌^◌, ◌<◌, ◌≤◌, false, List, ℤ, pos, ◌-ℤ◌, ◌*ℤ◌, unsigned_abs}
use Rattle.whole.specs.Lists.{at, coord}
use Rattle.whole.specs.Sums.{sum_below}
use Rattle.whole.specs.Gcd.{lcm}
use Rattle.linear.specs.Gram.{gram}
use Rattle.linear.specs.Elimination.{Grid, entry, table_limit, beyond}
use Rattle.records.specs.declared.relation.Relation.{Relation}
use Rattle.records.specs.declared.role.Role.{Role}
use Rattle.rules.specs.Limits.{most_parameters, most_counted, most_steps, most_denominator, most_coefficient, most_constant, most_residual, most_multiplier}
use Rattle.rules.specs.Values.{Coords}
use Rattle.rules.specs.Sheets.{Sheet, Bond, bonds, bad_coefs, bad_constant, unfit_values, unfit}
use Rattle.rules.specs.Gripping.{role, is_held, share, bad_roles, counted, coef}
use Rattle.rules.specs.Pulling.{const, if_held, if_moving, far_wish, some_above, numerator}

-- The coefficients of n parameters, and the constants, are within their limits.
abbrev pub CoefsWithin : ℕ → List Bond → Type 0
CoefsWithin n bs = (i s : ℕ) → s < n → unsigned_abs (coef bs i s) ≤ most_coefficient

abbrev pub ConstantsWithin : ℕ → List Bond → Type 0
ConstantsWithin size bs = (i c : ℕ) → c < size → unsigned_abs (const bs i c) ≤ most_constant

-- So they are in the bound relations that count, where the lists fit.
abbrev pub Fitting : Type 0
Fitting = (size : ℕ) (s : Sheet) (vs : List Coords) (rs : List Relation) (qs : List Coords) → unfit size s vs rs qs ≡ false → (roles : List Role)
    → CoefsWithin s.count (counted s.count roles (bonds s rs qs)) × ConstantsWithin size (counted s.count roles (bonds s rs qs))

-- v(s) is from 0 to 12.
abbrev pub SharesWithin : Type 0
SharesWithin = (n : ℕ) (roles : List Role) → bad_roles n roles ≡ false → (s : ℕ) → s < n → unsigned_abs (share (role roles s)) ≤ 12

-- N(i, j)
abbrev pub GramWithin : Type 0
GramWithin = (n : ℕ) (roles : List Role) (bs : List Bond) → bad_roles n roles ≡ false → CoefsWithin n bs
    → (i j k : ℕ) → k ≤ n → unsigned_abs (gram k (λ s. share (role roles s)) (coef bs) i j) ≤ 288000000

-- The test whether a relation holds now.
abbrev pub HoldingWithin : Type 0
HoldingWithin = (size n : ℕ) (d : ℤ) (values : List Coords) (cs : List ℤ) (q : Coords) → n ≤ most_parameters → unfit_values size n d values ≡ false → bad_coefs n cs ≡ false → bad_constant size q ≡ false
    → (c k : ℕ) → c < size → k ≤ n → unsigned_abs (sum_below k (λ s. at cs s *ℤ coord values s c) -ℤ d *ℤ at q c) ≤ 110000000000000

-- c(i), with the first j of the pulled and loose terms and the first k of the held ones.
abbrev pub ResidualWithin : Type 0
ResidualWithin = (size n : ℕ) (roles : List Role) (bs : List Bond) (d : ℤ) (values wishes : List Coords) → n ≤ most_parameters → unfit_values size n d values ≡ false
    → far_wish size n roles wishes ≡ false → CoefsWithin n bs → ConstantsWithin size bs → (i c j k : ℕ) → c < size → j ≤ n → k ≤ n
    → unsigned_abs (d *ℤ const bs i c -ℤ d *ℤ sum_below j (λ s. if_moving (role roles s) (coef bs i s *ℤ coord wishes s c)) -ℤ sum_below k (λ s. if_held (role roles s) (coef bs i s *ℤ coord values s c))) ≤ 110000000000000

-- g(i)
abbrev pub CarriedWithin : Type 0
CarriedWithin = (size m : ℕ) (t : Grid) (cs : List Coords) → m ≤ most_counted → beyond m t ≡ false → some_above most_residual size m cs ≡ false
    → (i c k : ℕ) → i < m → c < size → k ≤ m → unsigned_abs (sum_below k (λ j. entry t i (m + j) *ℤ coord cs j c)) ≤ 7800000000000000000

-- A number p'(i) taken up into ℓ, and μ(i).
abbrev pub MultipleWithin : Type 0
MultipleWithin = (l p : ℕ) → l ≤ table_limit → p ≤ table_limit → lcm l p ≤ table_limit * table_limit

abbrev pub MultiplierWithin : Type 0
MultiplierWithin = (l p : ℕ) (g : ℤ) → l ≤ table_limit → unsigned_abs g ≤ table_limit → unsigned_abs (pos (l / p) *ℤ g) ≤ table_limit * table_limit

-- ℓ × d, and a numerator over it: R i and x i are the coefficients of the parameter and a coordinate of the multipliers.
abbrev pub DenominatorWithin : Type 0
DenominatorWithin = (l : ℕ) (d : ℤ) → l ≤ table_limit → unsigned_abs d ≤ most_denominator → unsigned_abs (pos l *ℤ d) ≤ 5000000000000000000

abbrev pub NumeratorWithin : Type 0
NumeratorWithin = (r : Role) (l : ℕ) (d n wish v : ℤ) (m : ℕ) (R x : ℕ → ℤ) → l ≤ table_limit → unsigned_abs d ≤ most_denominator → unsigned_abs n ≤ most_steps * unsigned_abs d
    → (is_held r ≡ false → unsigned_abs wish ≤ most_steps) → unsigned_abs v ≤ 12 → m ≤ most_counted
    → ((i : ℕ) → i < m → unsigned_abs (R i) ≤ most_coefficient) → ((i : ℕ) → i < m → unsigned_abs (x i) ≤ most_multiplier) → (k : ℕ) → k ≤ m
    → (unsigned_abs (sum_below k (λ i. x i *ℤ R i)) ≤ 12000000000000000) × (unsigned_abs (numerator r (pos l) d n wish v (sum_below k (λ i. x i *ℤ R i))) ≤ 5000000000000000000)

-- All of these bounds are below 2^63.
abbrev pub RoomForAll : Type 0
RoomForAll = (288000000 < 2 ^ 63) × (110000000000000 < 2 ^ 63) × (7800000000000000000 < 2 ^ 63) × (table_limit * table_limit < 2 ^ 63) × (5000000000000000000 < 2 ^ 63)
