-- Placings of n parameters with `size` coordinates each, and which of two is nearer to the wishes.
use Rattle.std.specs.Prelude.{◌≡◌, ℕ, ◌<◌, List, [], length, ℤ, pos, ◌-ℤ◌, ◌*ℤ◌, ◌<ℤ◌, slice_index_or}
use Rattle.whole.specs.Lists.{tab, at, coord}
use Rattle.whole.specs.Sums.{sum_below}
use Rattle.records.specs.declared.role.Role.{Role}
use Rattle.records.specs.declared.role.Role.TheVariants.{Held, Pulled, Loose}
use Rattle.rules.specs.Values.{Coords}
use Rattle.rules.specs.Sheets.{Bond, no_bond}
use Rattle.rules.specs.Gripping.{role}
use Rattle.rules.specs.Pulling.{Placing}

-- A value for each parameter, whole numerators over one denominator above 0.
pub record Shaped (size n : ℕ) (p : Placing) : Type 0 where
  pub above : pos 0 <ℤ p.over
  pub values : length p.nums ≡ n
  pub coordinates : (s : ℕ) → s < n → length (slice_index_or p.nums s []) ≡ size

-- Two placings are the same fractions.
abbrev pub Same : ℕ → ℕ → Placing → Placing → Type 0
Same size n p z = (s : ℕ) → s < n → (c : ℕ) → c < size → z.over *ℤ coord p.nums s c ≡ p.over *ℤ coord z.nums s c

-- A relation holds: in each coordinate the sum of coefficient × value is the constant.
abbrev pub Holds : ℕ → ℕ → Placing → Bond → Type 0
Holds size n p b = (c : ℕ) → c < size → sum_below n (λ s. at b.coefs s *ℤ coord p.nums s c) ≡ p.over *ℤ at b.constant c

-- Every relation of a list holds.
abbrev pub AllHold : ℕ → ℕ → List Bond → Placing → Type 0
AllHold size n bs p = (i : ℕ) → i < length bs → Holds size n p (slice_index_or bs i no_bond)

-- A placing meets every relation, the held parameters' kept values and the pulled parameters' wishes.
pub record Meets (size n : ℕ) (bs : List Bond) (roles : List Role) (kept : Placing) (wishes : List Coords) (z : Placing) : Type 0 where
  pub shaped : Shaped size n z
  pub relations : AllHold size n bs z
  pub helds : (s : ℕ) → s < n → role roles s ≡ Held → (c : ℕ) → c < size → kept.over *ℤ coord z.nums s c ≡ z.over *ℤ coord kept.nums s c
  pub pulleds : (s : ℕ) → s < n → role roles s ≡ Pulled → (c : ℕ) → c < size → coord z.nums s c ≡ z.over *ℤ coord wishes s c

-- A loose parameter has its weight; the others are left out of the sum.
abbrev pub weight_of : Role → ℤ
weight_of Held = pos 0
weight_of Pulled = pos 0
weight_of (Loose w) = w

-- Where parameter s is from its wish, times the denominator.
abbrev pub off : ℕ → List Coords → Placing → ℕ → Coords
off size wishes z s = tab size (λ c. coord z.nums s c -ℤ z.over *ℤ coord wishes s c)

-- The sum over the loose of weight × squared distance to the wish, times the square of the denominator.
abbrev pub cost : ℕ → (Coords → Coords → ℤ) → ℕ → List Role → List Coords → Placing → ℤ
cost size inner n roles wishes z = sum_below n (λ s. weight_of (role roles s) *ℤ inner (off size wishes z s) (off size wishes z s))

-- That sum is strictly less for p than for z: S × e'² < S' × e², with S over the square of e for p, and S' over the square of e' for z.
abbrev pub Nearer : ℕ → (Coords → Coords → ℤ) → ℕ → List Role → List Coords → Placing → Placing → Type 0
Nearer size inner n roles wishes p z = (z.over *ℤ z.over *ℤ cost size inner n roles wishes p) <ℤ (p.over *ℤ p.over *ℤ cost size inner n roles wishes z)
