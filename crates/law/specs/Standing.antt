-- What stands between a sheet in use and what its history told. A program that makes one call after
-- another carries one fact, `After`: it holds after an opening, and each call keeps it.
use Rattle.std.specs.Prelude.{◌≡◌, ℕ, ◌<◌, ◌≤◌, false, List, [], ◌∷◌, ◌++◌, length, take, ℤ, Ok}
use Rattle.linear.specs.Meaning.{Meaning}
use Rattle.records.specs.declared.relation.Relation.{Relation}
use Rattle.records.specs.declared.role.Role.{Role}
use Rattle.rules.specs.Limits.{most_relations}
use Rattle.rules.specs.Values.{Coords}
use Rattle.rules.specs.Sheets.{Sheet, Bond, bonds, Workings}
use Rattle.rules.specs.Gripping.{role, bad_weight, counted, coef, share, shares}
use Rattle.rules.specs.Pulling.{Placing}
use Rattle.rules.specs.Calls.{opening}
use Rattle.rules.specs.Runs.{Phase, free, gripped, proposing, Use, step, opened}
use Rattle.law.specs.Placings.{Shaped, AllHold}
use Rattle.law.specs.Histories.{Entry, Stage, no_grip, with_grip, with_proposal, Told, told}
use Rattle.law.specs.Law.{Lawful, Permitted}

-- The workings are those of the bound relations by the told roles, and their table means what a finished
-- elimination means.
pub record GrippedWell (n : ℕ) (bs : List Bond) (roles : List Role) (w : Workings) : Type 0 where
  pub roles_are : w.roles ≡ roles
  pub weights : (s : ℕ) → s < n → bad_weight (role roles s) ≡ false
  pub shares_are : w.shares ≡ shares n roles
  pub means : Meaning n (length (counted n roles bs)) (λ s. share (role roles s)) (coef (counted n roles bs)) w.table

-- The proposal's list holds the told proposal, for which every bound relation holds.
pub record ProposedWell (size n : ℕ) (bs : List Bond) (p : Placing) (proposal : List Coords) (e : ℤ) : Type 0 where
  pub over_is : e ≡ p.over
  pub nums_are : take n proposal ≡ p.nums
  pub shaped : Shaped size n p
  pub holds : AllHold size n bs p

abbrev pub PhaseStands : ℕ → ℕ → Told → List Coords → Phase → Type 0
PhaseStands size n t proposal free = Unit {0}
PhaseStands size n t proposal (gripped w) = GrippedWell n t.bound t.roles w
PhaseStands size n t proposal (proposing w e) = GrippedWell n t.bound t.roles w × ProposedWell size n t.bound t.proposal proposal e

-- The phase of a sheet in use as what is told has it.
abbrev pub stage_of : Phase → Stage
stage_of free = no_grip
stage_of (gripped w) = with_grip
stage_of (proposing w e) = with_proposal

-- What is told is what the sheet in use and its lists hold.
pub record Standing (size n : ℕ) (t : Told) (u : Use) : Type 0 where
  pub count_is : u.sheet.count ≡ n
  pub few : u.sheet.bound ≤ most_relations
  pub bound_is : bonds u.sheet u.relations u.constants ≡ t.bound
  pub over_is : u.sheet.d ≡ t.kept.over
  pub values_are : take n u.values ≡ t.kept.nums
  pub shaped : Shaped size n t.kept
  pub holds : AllHold size n t.bound t.kept
  pub stage_is : stage_of u.phase ≡ t.stage
  pub phase_is : PhaseStands size n t u.proposal u.phase

-- The sheet in use after a history: every entry of it is lawful, and what it tells is what the sheet and
-- its lists hold.
pub record After (size n : ℕ) (h : List Entry) (u : Use) : Type 0 where
  pub lawful : Lawful size n h
  pub stands : Standing size n (told size n h) u

-- It holds after an accepted opening, whatever the other lists hold and however long they are.
abbrev pub AfterOpening : Type 0
AfterOpening = (size n : ℕ) (values : List Coords) (s : Sheet) → (opening size n values).0 ≡ Ok s
    → (relations : List Relation) (constants proposal working : List Coords) (places : ℕ)
    → After size n [] (opened s (opening size n values).1 relations constants proposal working places)

-- It holds again after each call, refused ones and those that are not open included.
abbrev pub AfterCall : Type 0
AfterCall = (size n : ℕ) (h : List Entry) (u : Use) → After size n h u → (e : Entry) → Permitted size u e
    → After size n (h ++ (e ∷ [])) (step size u e.call).then
