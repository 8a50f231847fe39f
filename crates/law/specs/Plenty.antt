-- The law is not empty: every series of calls makes a history, and where the lists are long enough no call gives 1.
use Rattle.std.specs.Prelude.{◌≡◌, ℕ, ◌≤◌, ◌≢◌, List, [], ◌∷◌, map, length, pos, Ok, Err}
use Rattle.records.specs.declared.refusal.Refusal.TheVariants.{Unfit, NotOpen}
use Rattle.records.specs.declared.relation.Relation.{Relation}
use Rattle.records.specs.declared.role.Role.TheVariants.{Pulled}
use Rattle.rules.specs.Limits.{most_relations, most_counted, working_places}
use Rattle.rules.specs.Values.{Coords, zeros}
use Rattle.rules.specs.Sheets.{Sheet}
use Rattle.rules.specs.Calls.{opening}
use Rattle.rules.specs.Runs.{Use, Call, bind, unbind, grip, pull, keep, drop_grip, nothing, spares, placing, step, opened}
use Rattle.rules.specs.Worked.{neg, lengths, weight, unbound}
use Rattle.law.specs.Histories.{Entry}
use Rattle.law.specs.Law.{Lawful, Made}

-- ---- every series of calls
-- The history of a series of calls, with spare numbers in rising order.
abbrev pub history : ℕ → Use → List Call → List Entry
history size u [] = []
history size u (k ∷ ks) =
    let x = step size u k in
    record { call = k; reply = x.reply; values = x.then.values; d = x.then.sheet.d } ∷ history size x.then ks

abbrev pub SeriesMade : Type 0
SeriesMade = (size : ℕ) (u : Use) (ks : List Call) → Made size u (history size u ks) × (map (λ e. e.call) (history size u ks) ≡ ks)

-- ---- no call gives 1
-- The caller's lists are long enough for n parameters.
pub record LongLists (n : ℕ) (u : Use) : Type 0 where
  pub relations : most_relations ≤ length u.relations
  pub constants : most_relations ≤ length u.constants
  pub proposal : n ≤ length u.proposal
  pub working : working_places ≤ length u.working
  pub spare_list : most_counted ≤ u.places

-- So is the list that is handed to a call.
abbrev pub LongCall : ℕ → Call → Type 0
LongCall n (bind cs q) = n ≤ length cs
LongCall n (unbind i) = Unit {0}
LongCall n (grip roles) = n ≤ length roles
LongCall n (pull wishes) = n ≤ length wishes
LongCall n keep = Unit {0}
LongCall n drop_grip = Unit {0}

abbrev pub LongCalls : ℕ → List Entry → Type 0
LongCalls n [] = Unit {0}
LongCalls n (e ∷ h) = LongCall n e.call × LongCalls n h

abbrev pub NeverUnfit : List Entry → Type 0
NeverUnfit [] = Unit {0}
NeverUnfit (e ∷ h) = (e.reply ≢ Err Unfit) × NeverUnfit h

abbrev pub FitsAlways : Type 0
FitsAlways = (size n : ℕ) (values : List Coords) (s : Sheet) → (opening size n values).0 ≡ Ok s
    → (relations : List Relation) (constants proposal working : List Coords) (places : ℕ)
    → let u = opened s (opening size n values).1 relations constants proposal working places in
    LongLists n u → (h : List Entry) → Made size u h → LongCalls n h → NeverUnfit h

-- ---- a small series
-- Three lengths with a - 2b + c = 0: gripped, pulled to 5, 2, -1 over 5, and kept. A pull after that is not open.
abbrev pub small_use : Use
small_use = opened (record { count = 3; bound = 0; d = pos 1 }) (zeros 3 1) unbound (zeros most_relations 1) (zeros 3 1) (zeros working_places 1) most_counted

abbrev pub fifths : List Coords
fifths = lengths (pos 5 ∷ pos 2 ∷ neg 1 ∷ [])

abbrev pub small : List Entry
small =
    record { call = bind (pos 1 ∷ neg 2 ∷ pos 1 ∷ []) (pos 0 ∷ []); reply = Ok nothing; values = zeros 3 1; d = pos 1 }
    ∷ record { call = grip (Pulled ∷ weight 1 ∷ weight 1 ∷ []); reply = Ok (spares []); values = zeros 3 1; d = pos 1 }
    ∷ record { call = pull (lengths (pos 1 ∷ pos 0 ∷ pos 0 ∷ [])); reply = Ok (placing (record { over = pos 5; nums = fifths })); values = zeros 3 1; d = pos 1 }
    ∷ record { call = keep; reply = Ok nothing; values = fifths; d = pos 5 }
    ∷ record { call = pull (lengths (pos 2 ∷ pos 0 ∷ pos 0 ∷ [])); reply = Err NotOpen; values = fifths; d = pos 5 }
    ∷ []

-- It is a history from an accepted opening, so that the law speaks of its pulls and its keep.
abbrev pub SmallMade : Type 0
SmallMade = (opening 1 3 (zeros 3 1) ≡ (Ok (record { count = 3; bound = 0; d = pos 1 }), zeros 3 1)) × Made 1 small_use small × Lawful 1 3 small
