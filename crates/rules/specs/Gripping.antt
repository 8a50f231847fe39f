-- Gripping: roles, the relations that count, the table, marks and the spare list.
use Rattle.std.specs.Prelude.{ℕ, zero, suc, Bool, true, false, cond, not, ◌&&◌, ◌||◌, List, [], ◌∷◌, ◌++◌, length, get_or, ℤ, pos, Result, int_div, nat_lt, slice_index_or}
use Rattle.whole.specs.Lists.{tab, at}
use Rattle.whole.specs.Tests.{any, tally, nonzero, differ}
use Rattle.linear.specs.Elimination.{Grid, entry, start, eliminated}
use Rattle.records.specs.declared.refusal.Refusal.{Refusal}
use Rattle.records.specs.declared.relation.Mark.{Mark}
use Rattle.records.specs.declared.relation.Mark.TheVariants.{Idle, Needed, Spare}
use Rattle.records.specs.declared.relation.Relation.{Relation}
use Rattle.records.specs.declared.role.Role.{Role}
use Rattle.records.specs.declared.role.Role.TheVariants.{Held, Pulled, Loose}
use Rattle.rules.specs.Limits.{most_loose}
use Rattle.rules.specs.Values.{written}
use Rattle.rules.specs.Sheets.{Bond, no_bond, relation_at}

abbrev pub role : List Role → ℕ → Role
role roles s = slice_index_or roles s Held

abbrev pub is_held : Role → Bool
is_held Held = true
is_held Pulled = false
is_held (Loose w) = false

abbrev pub is_pulled : Role → Bool
is_pulled Held = false
is_pulled Pulled = true
is_pulled (Loose w) = false

abbrev pub is_loose : Role → Bool
is_loose Held = false
is_loose Pulled = false
is_loose (Loose w) = true

-- Weights are 1, 2, 3, 4, 6 and 12.
abbrev pub is_weight : ℤ → Bool
is_weight w = not (differ w (pos 1)) || not (differ w (pos 2)) || not (differ w (pos 3)) || not (differ w (pos 4)) || not (differ w (pos 6)) || not (differ w (pos 12))

abbrev pub bad_weight : Role → Bool
bad_weight Held = false
bad_weight Pulled = false
bad_weight (Loose w) = not (is_weight w)

-- Nothing is pulled, a weight is none of the six, or more than 24 are loose.
abbrev pub bad_roles : ℕ → List Role → Bool
bad_roles n roles = not (any n (λ s. is_pulled (role roles s))) || any n (λ s. bad_weight (role roles s)) || nat_lt most_loose (tally n (λ s. is_loose (role roles s)))

-- A relation counts when a pulled or loose parameter has a coefficient other than 0 in it.
abbrev pub counts : ℕ → List Role → List ℤ → Bool
counts n roles cs = any n (λ s. not (is_held (role roles s)) && nonzero (at cs s))

-- Those that count, in bound order.
abbrev pub counted : ℕ → List Role → List Bond → List Bond
counted n roles [] = []
counted n roles (b ∷ bs) = cond (counts n roles b.coefs) (b ∷ counted n roles bs) (counted n roles bs)

-- R(i, s), the coefficient of parameter s in the i-th of a list of relations.
abbrev pub coef : List Bond → ℕ → ℕ → ℤ
coef bs i s = at (get_or bs i no_bond).coefs s

-- Weight × v(s) is the same number for every loose parameter.
abbrev pub weight_times_share : ℤ
weight_times_share = pos 12

-- v(s) is 12 ÷ weight for a loose parameter; 0 for the others leaves them out of every sum.
abbrev pub share : Role → ℤ
share Held = pos 0
share Pulled = pos 0
share (Loose w) = int_div weight_times_share w

abbrev pub shares : ℕ → List Role → List ℤ
shares n roles = tab n (λ s. share (role roles s))

-- The table: N(i, j), the sum over loose s of v(s) × R(i, s) × R(j, s), then the unit matrix; and its elimination.
abbrev pub table : ℕ → List Role → List Bond → Result Grid Refusal
table n roles bs = eliminated (length bs) (length bs) (start n (length bs) (λ s. share (role roles s)) (coef bs))

-- Row i of a table is needed when its diagonal number is not 0.
abbrev pub is_needed : Grid → ℕ → Bool
is_needed t i = nonzero (entry t i i)

-- How many of the first i relations count: the row of relation i, where it counts.
abbrev pub row_of : ℕ → List Role → List Bond → ℕ → ℕ
row_of n roles bs i = tally i (λ j. counts n roles (get_or bs j no_bond).coefs)

-- A relation that does not count is idle.
abbrev pub mark_of : ℕ → List Role → List Bond → Grid → ℕ → Mark
mark_of n roles bs t i = cond (counts n roles (get_or bs i no_bond).coefs) (cond (is_needed t (row_of n roles bs i)) Needed Spare) Idle

abbrev pub with_mark : Relation → Mark → Relation
with_mark r k = record { coefficients = r.coefficients; mark = k }

-- The caller's list with each bound relation marked.
abbrev pub marked : ℕ → List Role → List Bond → Grid → List Relation → List Relation
marked n roles bs t rs = written (length bs) (tab (length bs) (λ i. with_mark (relation_at rs i) (mark_of n roles bs t i))) rs

abbrev pub is_spare : Mark → Bool
is_spare Idle = false
is_spare Needed = false
is_spare Spare = true

-- The numbers below k of the relations that are marked spare.
abbrev pub spares : ℕ → List Role → List Bond → Grid → ℕ → List ℕ
spares n roles bs t zero = []
spares n roles bs t (suc i) = spares n roles bs t i ++ cond (is_spare (mark_of n roles bs t i)) (i ∷ []) []
