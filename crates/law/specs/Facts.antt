-- What a grip's table, marks and workings mean, and what a pull with them gives.
use Rattle.std.specs.Prelude.{◌≡◌, ℕ, ◌<◌, ◌≤◌, true, false, ◌≢◌, ◌↔◌, List, [], length, take, ℤ, pos, ◌*ℤ◌, ◌≤ℤ◌, Ok, slice_index_or}
use Rattle.whole.specs.Lists.{at}
use Rattle.whole.specs.Sums.{sum_below}
use Rattle.linear.specs.Elimination.{Grid, entry, start, steps, beyond}
use Rattle.linear.specs.Meaning.{Meaning}
use Rattle.records.specs.declared.relation.Mark.TheVariants.{Spare}
use Rattle.records.specs.declared.relation.Relation.{Relation}
use Rattle.records.specs.declared.role.Role.{Role}
use Rattle.rules.specs.Limits.{most_relations, most_counted}
use Rattle.rules.specs.Values.{Coords}
use Rattle.rules.specs.Sheets.{Sheet, Bond, no_bond, bonds, relation_at, Workings}
use Rattle.rules.specs.Gripping.{role, is_loose, bad_roles, counts, counted, coef, share, shares}
use Rattle.rules.specs.Pulling.{Placing}
use Rattle.rules.specs.Calls.{grip_on, grip_answer, marks_after, pulling}
use Rattle.rules.specs.Runs.{pull, Reply, told}
use Rattle.law.specs.Placings.{AllHold}
use Rattle.law.specs.Histories.{with_grip, Told}
use Rattle.law.specs.Law.{LawfulReply}

-- The table of the relations bs after k steps.
abbrev pub table_after : ℕ → List Role → List Bond → ℕ → Grid
table_after n roles bs k = steps (length bs) k (start n (length bs) (λ s. share (role roles s)) (coef bs))

-- The pivot of step k is never negative, and where it is 0 its row is 0 in its first m places.
abbrev pub Pivots : Type 0
Pivots = (n : ℕ) (roles : List Role) (bs : List Bond) → bad_roles n roles ≡ false → (k : ℕ) → k < length bs
    → (pos 0 ≤ℤ entry (table_after n roles bs k) k k)
    × (entry (table_after n roles bs k) k k ≡ pos 0 → (j : ℕ) → j < length bs → entry (table_after n roles bs k) k j ≡ pos 0)

-- Row k's diagonal number at the end is 0 exactly when the pivot of step k was 0; it is never negative, and a row where it is 0 is still 0 in its first m places.
abbrev pub Diagonal : Type 0
Diagonal = (n : ℕ) (roles : List Role) (bs : List Bond) → bad_roles n roles ≡ false → (k : ℕ) → k < length bs
    → ((entry (table_after n roles bs k) k k ≡ pos 0) ↔ (entry (table_after n roles bs (length bs)) k k ≡ pos 0))
    × (pos 0 ≤ℤ entry (table_after n roles bs (length bs)) k k)
    × (entry (table_after n roles bs (length bs)) k k ≡ pos 0 → (j : ℕ) → j < length bs → entry (table_after n roles bs (length bs)) k j ≡ pos 0)

-- The workings of a sheet by these roles: the table after all steps, with no number beyond the limit, and what it means.
pub record WorkedOut (n : ℕ) (roles : List Role) (bs : List Bond) (w : Workings) : Type 0 where
  pub good : bad_roles n roles ≡ false
  pub few : length (counted n roles bs) ≤ most_counted
  pub count_is : w.count ≡ n
  pub m_is : w.m ≡ length (counted n roles bs)
  pub roles_are : w.roles ≡ roles
  pub shares_are : w.shares ≡ shares n roles
  pub table_is : w.table ≡ table_after n roles (counted n roles bs) (length (counted n roles bs))
  pub within : beyond (length (counted n roles bs)) w.table ≡ false
  pub means : Meaning n (length (counted n roles bs)) (λ s. share (role roles s)) (coef (counted n roles bs)) w.table

abbrev pub AcceptedGrip : Type 0
AcceptedGrip = (size : ℕ) (s : Sheet) (vs : List Coords) (rs : List Relation) (qs : List Coords) (roles : List Role) (list : List ℕ) (w : Workings)
    → grip_answer size s vs rs qs roles list ≡ Ok w → WorkedOut s.count (take s.count roles) (bonds s rs qs) w

-- The loose coefficients of a relation are a rational combination, y over e, of those of the relations bs.
abbrev pub Combination : ℕ → List Role → List Bond → Bond → Type 0
Combination n roles bs b = (e : ℤ) × (y : ℕ → ℤ) × (e ≢ pos 0)
    × ((s : ℕ) → s < n → is_loose (role roles s) ≡ true → e *ℤ at b.coefs s ≡ sum_below (length bs) (λ j. y j *ℤ coef bs j s))

-- After an accepted grip relation i is marked spare exactly when it counts and its loose coefficients are a rational combination of those of earlier relations that count.
abbrev pub SpareExactly : Type 0
SpareExactly = (size : ℕ) (s : Sheet) (vs : List Coords) (rs : List Relation) (qs : List Coords) (roles : List Role) (list : List ℕ) (w : Workings)
    → grip_answer size s vs rs qs roles list ≡ Ok w → (i : ℕ) → i < s.bound
    → let ρ = take s.count roles in
    let b = slice_index_or (bonds s rs qs) i no_bond in
    ((relation_at (marks_after (Ok w) s rs qs) i).mark ≡ Spare)
    ↔ ((counts s.count ρ b.coefs ≡ true) × Combination s.count ρ (counted s.count ρ (take i (bonds s rs qs))) b)

-- ---- pulling
-- The values of a sheet, and what is told of it by its lists and its grip's roles: it is gripped, and no
-- proposal is told.
abbrev pub values_of : Sheet → List Coords → Placing
values_of s vs = record { over = s.d; nums = take s.count vs }

abbrev pub told_by : Sheet → List Coords → List Relation → List Coords → List Role → Told
told_by s vs rs qs roles = record {
  bound = bonds s rs qs;
  kept = values_of s vs;
  proposal = values_of s vs;
  roles = roles;
  stage = with_grip;
}

-- A pull with the workings of a grip on this sheet, whose bound relations hold for its values. Unless it is
-- refused with 1, 11 or 12 it is refused with 13 exactly when no placing meets the bound relations, the held
-- values and the pulled wishes, and where it is not such a placing is given. An accepted one proposes such a
-- placing, and every other one is strictly farther from the wishes.
abbrev pub PulledRightly : ℕ → Sheet → List Coords → List Relation → List Coords → Workings → List Coords → Reply → Type 0
PulledRightly size s vs rs qs w wishes r = (roles : List Role) → grip_on s.count roles (bonds s rs qs) ≡ Ok w → AllHold size s.count (bonds s rs qs) (values_of s vs)
    → LawfulReply size s.count (told_by s vs rs qs roles) (pull wishes) r

-- It is so of every pull of the rules, on values of `size` coordinates each.
abbrev pub PullsRightly : Type 0
PullsRightly = (size : ℕ) (s : Sheet) (vs : List Coords) (rs : List Relation) (qs : List Coords) (w : Workings) (wishes proposal working : List Coords)
    → s.bound ≤ most_relations → ((i : ℕ) → i < length vs → length (slice_index_or vs i []) ≡ size)
    → let P = pulling size s vs rs qs w wishes proposal working in
    PulledRightly size s vs rs qs w wishes (told s.count P.1 P.0)
