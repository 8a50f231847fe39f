-- The seven calls over values of `size` coordinates: what each gives back, and what every list holds afterwards. Tests stand in the order of the refusals' numbers.
use Rattle.std.specs.Prelude.{◌≡◌, ℕ, ◌+◌, ◌-◌, min, Bool, cond, not, ◌||◌, List, length, take, drop, replicate, ℤ, pos, ◌*ℤ◌, Ok, Err, Result, ◌==◌, int_lt, nat_le, nat_lt, slice_set, unsigned_abs}
use Rattle.std.proofs.Math.Seq.{paste}
use Rattle.std.specs.List.Sorted.{IsPermutation}
use Rattle.whole.specs.Lists.{at, coord}
use Rattle.whole.specs.Sums.{sum_below}
use Rattle.whole.specs.Tests.{any, nonzero, differ}
use Rattle.records.specs.Outcomes.{guard, onward}
use Rattle.records.specs.declared.refusal.Refusal.{Refusal}
use Rattle.records.specs.declared.refusal.Refusal.TheVariants.{Unfit, Count, Full, Coefficients, Constant, Untrue, NoRelation, Roles, Crowded}
use Rattle.records.specs.declared.relation.Mark.TheVariants.{Idle}
use Rattle.records.specs.declared.relation.Relation.{Relation}
use Rattle.records.specs.declared.role.Role.{Role}
use Rattle.rules.specs.Limits.{most_parameters, most_relations, most_counted, working_places}
use Rattle.rules.specs.Values.{Coords, zeros, written}
use Rattle.rules.specs.Sheets.{Sheet, Bond, bond, bonds, Workings, bad_coefs, bad_constant, unfit_values, unfit}
use Rattle.rules.specs.Gripping.{bad_roles, counted, shares, table, marked, spares}
use Rattle.rules.specs.Pulling.{Placing, proposed}

-- ---- opening

-- The sheet, and the values: all zero over 1, and nothing bound.
abbrev pub opening : ℕ → ℕ → List Coords → Result Sheet Refusal × List Coords
opening size n vs =
    cond (nat_lt (length vs) (min n most_parameters)) (Err Unfit, vs)
    (cond (nat_lt n 1 || nat_lt most_parameters n) (Err Count, vs)
    (Ok (record { count = n; bound = 0; d = pos 1 }), written n (zeros n size) vs))

-- ---- binding

-- The relation does not hold for the values over d.
abbrev pub untrue : ℕ → ℕ → ℤ → List Coords → Bond → Bool
untrue size n d vs b = any size (λ c. differ (sum_below n (λ s. at b.coefs s *ℤ coord vs s c)) (d *ℤ at b.constant c))

abbrev pub bind_answer : ℕ → Sheet → List Coords → List Relation → List Coords → List ℤ → Coords → Result (Unit {0}) Refusal
bind_answer size s vs rs qs cs q =
    guard (nat_lt (length cs) s.count || unfit size s vs rs qs) Unfit
    (guard (nat_le most_relations s.bound) Full
    (guard (not (any s.count (λ p. nonzero (at cs p))) || bad_coefs s.count cs) Coefficients
    (guard (bad_constant size q) Constant
    (guard (untrue size s.count s.d vs (bond s.count cs q)) Untrue
    (Ok tt)))))

-- The record of a relation: 0 at the places that no parameter has, and the mark idle.
abbrev pub recorded : ℕ → List ℤ → Relation
recorded n cs = record { coefficients = written n cs (replicate most_parameters (pos 0)); mark = Idle }

-- The answer, the sheet, the relations and the constants.
abbrev pub Bound : Type 0
Bound = Result (Unit {0}) Refusal × Sheet × List Relation × List Coords

abbrev pub bind_by : Result (Unit {0}) Refusal → Sheet → List Relation → List Coords → List ℤ → Coords → Bound
bind_by (Err e) s rs qs cs q = (Err e, s, rs, qs)
bind_by (Ok u) s rs qs cs q =
    (Ok u, record { count = s.count; bound = s.bound + 1; d = s.d }, slice_set rs s.bound (recorded s.count cs), slice_set qs s.bound q)

-- The new relation comes after those that are bound.
abbrev pub binding : ℕ → Sheet → List Coords → List Relation → List Coords → List ℤ → Coords → Bound
binding size s vs rs qs cs q = bind_by (bind_answer size s vs rs qs cs q) s rs qs cs q

-- ---- unbinding

-- Place i is taken out of the first n: the later ones move down by one, and the last of the n places is left as it was.
abbrev pub closed : {A : Type 0} → ℕ → ℕ → List A → List A
closed n i xs = paste xs i (drop (i + 1) xs) (n - (i + 1))

abbrev pub unbind_answer : ℕ → Sheet → List Coords → List Relation → List Coords → ℤ → Result (Unit {0}) Refusal
unbind_answer size s vs rs qs i =
    guard (unfit size s vs rs qs) Unfit
    (guard (int_lt i (pos 0) || not (int_lt i (pos s.bound))) NoRelation
    (Ok tt))

abbrev pub unbind_by : Result (Unit {0}) Refusal → Sheet → List Relation → List Coords → ℕ → Bound
unbind_by (Err e) s rs qs i = (Err e, s, rs, qs)
unbind_by (Ok u) s rs qs i =
    (Ok u, record { count = s.count; bound = s.bound - 1; d = s.d }, closed s.bound i rs, closed s.bound i qs)

abbrev pub unbinding : ℕ → Sheet → List Coords → List Relation → List Coords → ℤ → Bound
unbinding size s vs rs qs i = unbind_by (unbind_answer size s vs rs qs i) s rs qs (unsigned_abs i)

-- ---- gripping

-- The workings of a grip on these relations, or the refusal.
abbrev pub grip_on : ℕ → List Role → List Bond → Result Workings Refusal
grip_on n roles bs =
    guard (bad_roles n roles) Roles
    (guard (nat_lt most_counted (length (counted n roles bs))) Crowded
    (onward (table n roles (counted n roles bs)) (λ t.
    Ok (record { count = n; m = length (counted n roles bs); table = t; roles = roles; shares = shares n roles }))))

abbrev pub grip_answer : ℕ → Sheet → List Coords → List Relation → List Coords → List Role → List ℕ → Result Workings Refusal
grip_answer size s vs rs qs roles list =
    guard (nat_lt (length roles) s.count || nat_lt (length list) most_counted || unfit size s vs rs qs) Unfit
    (grip_on s.count (take s.count roles) (bonds s rs qs))

-- The relations with their marks; a refusal writes nothing.
abbrev pub marks_after : Result Workings Refusal → Sheet → List Relation → List Coords → List Relation
marks_after (Err e) s rs qs = rs
marks_after (Ok w) s rs qs = marked s.count w.roles (bonds s rs qs) w.table rs

-- The numbers of the spare relations.
abbrev pub spare_numbers : Workings → Sheet → List Relation → List Coords → List ℕ
spare_numbers w s rs qs = spares s.count w.roles (bonds s rs qs) w.table s.bound

-- The first k places of the list hold these numbers, each once and no other, in an order that is open; the places beyond are as they were.
pub record Listed (numbers : List ℕ) (k : ℕ) (before after : List ℕ) : Type 0 where
  pub many : k ≡ length numbers
  pub these : IsPermutation numbers (take k after)
  pub beyond : drop k after ≡ drop k before

-- ---- pulling

-- The answer, the proposal and the working values.
abbrev pub Pulled : Type 0
Pulled = Result ℤ Refusal × List Coords × List Coords

abbrev pub pull_by : ℕ → ℕ → List Coords → List Coords → Result Placing Refusal → Pulled
pull_by size n proposal working (Ok p) = (Ok p.over, written n p.nums proposal, written working_places (zeros working_places size) working)
pull_by size n proposal working (Err e) = (Err e, written n (zeros n size) proposal, written working_places (zeros working_places size) working)

-- A list is short, a number breaks a limit, or the workings are not those of a sheet like this.
abbrev pub unfit_pull : ℕ → Sheet → List Coords → List Relation → List Coords → Workings → List Coords → List Coords → List Coords → Bool
unfit_pull size s vs rs qs w wishes proposal working =
    nat_lt (length wishes) s.count || nat_lt (length proposal) s.count || nat_lt (length working) working_places || unfit size s vs rs qs
    || not (w.count == s.count) || not (w.m == length (counted s.count w.roles (bonds s rs qs)))

abbrev pub pulling : ℕ → Sheet → List Coords → List Relation → List Coords → Workings → List Coords → List Coords → List Coords → Pulled
pulling size s vs rs qs w wishes proposal working = cond (unfit_pull size s vs rs qs w wishes proposal working)
    (Err Unfit, proposal, working)
    (pull_by size s.count proposal working
    (proposed size s.count w.roles w.shares (counted s.count w.roles (bonds s rs qs)) w.table s.d vs wishes))

-- ---- keeping and dropping

-- The sheet and the values: the proposal and its denominator become the sheet's.
abbrev pub keeping : ℕ → Sheet → List Coords → List Relation → List Coords → List Coords → ℤ → Result Sheet Refusal × List Coords
keeping size s vs rs qs proposal e =
    cond (unfit size s vs rs qs || unfit_values size s.count e proposal)
    (Err Unfit, vs)
    (Ok (record { count = s.count; bound = s.bound; d = e }), written s.count proposal vs)

-- Dropping gives the sheet back as it was gripped, and changes nothing else.
abbrev pub dropping : Sheet → Sheet
dropping s = s
