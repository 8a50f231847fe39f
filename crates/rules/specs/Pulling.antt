-- What a pull works out, rule by rule. A list by relation has one place for each of the m relations bs that count; c is a coordinate.
use Rattle.std.specs.Prelude.{ℕ, zero, suc, ◌+◌, ◌/◌, Bool, cond, not, ◌&&◌, ◌||◌, List, [], ◌∷◌, ◌++◌, length, get_or, ℤ, pos, ◌+ℤ◌, ◌-ℤ◌, ◌*ℤ◌, Ok, Result, int_div, int_lt, nat_lt, slice_index_or, unsigned_abs}
use Rattle.whole.specs.Lists.{tab, at, coord}
use Rattle.whole.specs.Sums.{sum_below}
use Rattle.whole.specs.Tests.{any, above, nonzero}
use Rattle.whole.specs.Gcd.{gcd_all, lcm}
use Rattle.linear.specs.Elimination.{Grid, entry, table_limit}
use Rattle.records.specs.Outcomes.{guard}
use Rattle.records.specs.declared.refusal.Refusal.{Refusal}
use Rattle.records.specs.declared.refusal.Refusal.TheVariants.{WishTooFar, GapTooLarge, Impossible, TooFine, OffSheet}
use Rattle.records.specs.declared.role.Role.{Role}
use Rattle.records.specs.declared.role.Role.TheVariants.{Held, Pulled, Loose}
use Rattle.rules.specs.Limits.{most_steps, most_denominator, most_residual, most_multiplier}
use Rattle.rules.specs.Values.{Coords, grid}
use Rattle.rules.specs.Sheets.{Bond, no_bond, bad_values}
use Rattle.rules.specs.Gripping.{role, is_held, coef, is_needed}

-- The coordinate of a constant.
abbrev pub const : List Bond → ℕ → ℕ → ℤ
const bs i c = at (get_or bs i no_bond).constant c

-- A number where the parameter is held, or where it is pulled or loose, and 0 elsewhere.
abbrev pub if_held : Role → ℤ → ℤ
if_held r x = cond (is_held r) x (pos 0)

abbrev pub if_moving : Role → ℤ → ℤ
if_moving r x = cond (is_held r) (pos 0) x

-- A wish that is read has a coordinate above 47,560 in size.
abbrev pub far_wish : ℕ → ℕ → List Role → List Coords → Bool
far_wish size n roles wishes = any n (λ s. not (is_held (role roles s)) && any size (λ c. above most_steps (coord wishes s c)))

-- c(i) = d × Q(i) − d × (sum over pulled and loose s of R(i, s) × wish) − (sum over held s of R(i, s) × n).
abbrev pub residuals : ℕ → ℕ → List Role → List Bond → ℤ → List Coords → List Coords → List Coords
residuals size n roles bs d values wishes = grid (length bs) size (λ i c.
    d *ℤ const bs i c -ℤ d *ℤ sum_below n (λ s. if_moving (role roles s) (coef bs i s *ℤ coord wishes s c)) -ℤ sum_below n (λ s. if_held (role roles s) (coef bs i s *ℤ coord values s c)))

-- g(i) is the sum over j of the number in row i, place m + j, times c(j).
abbrev pub carried : ℕ → ℕ → Grid → List Coords → List Coords
carried size m t cs = grid m size (λ i c. sum_below m (λ j. entry t i (m + j) *ℤ coord cs j c))

-- A spare row carries something other than zero.
abbrev pub contradicts : ℕ → ℕ → Grid → List Coords → Bool
contradicts size m t gs = any m (λ i. not (is_needed t i) && any size (λ c. nonzero (coord gs i c)))

-- The greatest common divisor of p(i), the diagonal number, and all coordinates of g(i).
abbrev pub divisors : ℕ → Grid → List Coords → List ℕ
divisors m t gs = tab m (λ i. gcd_all (entry t i i ∷ slice_index_or gs i []))

-- p'(i) and g'(i) are p(i) and g(i) divided by it.
abbrev pub lowered : ℕ → Grid → List ℕ → List ℕ
lowered m t hs = tab m (λ i. unsigned_abs (entry t i i) / slice_index_or hs i 1)

abbrev pub lowered_sums : ℕ → ℕ → List Coords → List ℕ → List Coords
lowered_sums size m gs hs = grid m size (λ i c. int_div (coord gs i c) (pos (slice_index_or hs i 1)))

-- ℓ is the least common multiple of p'(i) of the needed rows below k, taken up one at a time; 1 when there are none.
abbrev pub common : ℕ → Grid → List ℕ → ℕ
common zero t ps = 1
common (suc k) t ps = let l = common k t ps in cond (is_needed t k) (lcm l (slice_index_or ps k 1)) l

-- μ(i) is (ℓ ÷ p'(i)) × g'(i), and 0 for a spare row.
abbrev pub multipliers : ℕ → ℕ → Grid → ℕ → List ℕ → List Coords → List Coords
multipliers size m t l ps gs = grid m size (λ i c. cond (is_needed t i) (pos (l / slice_index_or ps i 1) *ℤ coord gs i c) (pos 0))

-- The numerators over ℓ × d: ℓ × n if held, ℓ × d × wish if pulled, ℓ × d × wish + v(s) × (sum of R(i, s) × μ(i)) if loose.
abbrev pub numerator : Role → ℤ → ℤ → ℤ → ℤ → ℤ → ℤ → ℤ
numerator Held l d n wish v x = l *ℤ n
numerator Pulled l d n wish v x = l *ℤ (d *ℤ wish)
numerator (Loose w) l d n wish v x = l *ℤ (d *ℤ wish) +ℤ v *ℤ x

abbrev pub numerators : ℕ → ℕ → List Role → List ℤ → List Bond → ℕ → ℤ → List Coords → List Coords → List Coords → List Coords
numerators size n roles vs bs l d values wishes xs = grid n size (λ s c.
    numerator (role roles s) (pos l) d (coord values s c) (coord wishes s c) (at vs s) (sum_below (length bs) (λ i. coord xs i c *ℤ coef bs i s)))

abbrev pub joined : List Coords → List ℤ
joined [] = []
joined (u ∷ us) = u ++ joined us

-- A placing: numerators over one denominator.
pub record Placing : Type 0 where
  pub over : ℤ
  pub nums : List Coords

-- The denominator and every coordinate divided by their greatest common divisor.
abbrev pub lowest : ℕ → ℕ → ℤ → List Coords → Placing
lowest size n e us = let h = gcd_all (e ∷ joined us) in record { over = int_div e (pos h); nums = grid n size (λ s c. int_div (coord us s c) (pos h)) }

-- A coordinate of some of m values is above a limit in size.
abbrev pub some_above : ℕ → ℕ → ℕ → List Coords → Bool
some_above limit size m us = any m (λ i. any size (λ c. above limit (coord us i c)))

-- The same, of the needed rows alone.
abbrev pub some_needed_above : ℕ → ℕ → ℕ → Grid → List Coords → Bool
some_needed_above limit size m t us = any m (λ i. is_needed t i && any size (λ c. above limit (coord us i c)))

-- ℓ or a coordinate of some g'(i) is beyond the table's limit, or a coordinate of some μ(i) is above 10^12 in size.
abbrev pub too_fine : ℕ → ℕ → Grid → ℕ → List Coords → List Coords → Bool
too_fine size m t l gs xs = nat_lt table_limit l || some_needed_above table_limit size m t gs || some_above most_multiplier size m xs

-- The refusals of a placing.
abbrev pub settled : ℕ → ℕ → Placing → Result Placing Refusal
settled size n p = guard (int_lt (pos most_denominator) p.over) TooFine (guard (bad_values size n p.over p.nums) OffSheet (Ok p))

-- From g(i) to the proposal.
abbrev pub solved : ℕ → ℕ → List Role → List ℤ → List Bond → Grid → ℤ → List Coords → List Coords → List Coords → Result Placing Refusal
solved size n roles vs bs t d values wishes gs =
    let m = length bs in
    let hs = divisors m t gs in
    let ps = lowered m t hs in
    let g' = lowered_sums size m gs hs in
    let l = common m t ps in
    let xs = multipliers size m t l ps g' in
    guard (too_fine size m t l g' xs) TooFine (settled size n (lowest size n (pos l *ℤ d) (numerators size n roles vs bs l d values wishes xs)))

-- A pull whose lists and workings fit.
abbrev pub proposed : ℕ → ℕ → List Role → List ℤ → List Bond → Grid → ℤ → List Coords → List Coords → Result Placing Refusal
proposed size n roles vs bs t d values wishes =
    let cs = residuals size n roles bs d values wishes in
    let gs = carried size (length bs) t cs in
    guard (far_wish size n roles wishes) WishTooFar (guard (some_above most_residual size (length bs) cs) GapTooLarge (guard (contradicts size (length bs) t gs) Impossible
    (solved size n roles vs bs t d values wishes gs)))
