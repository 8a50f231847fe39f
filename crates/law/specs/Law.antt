-- The law for runs, of a bare history: of the calls, what came back, and the sheet's values after each.
use Rattle.std.specs.Prelude.{◌≡◌, ℕ, true, false, ◌≢◌, ◌↔◌, List, [], ◌∷◌, take, ℤ, Ok, Err}
use Rattle.linear.specs.Products.{InnerProduct}
use Rattle.records.specs.declared.refusal.Refusal.TheVariants.{Unfit, WishTooFar, GapTooLarge, Impossible, NotOpen}
use Rattle.records.specs.declared.relation.Relation.{Relation}
use Rattle.rules.specs.Values.{Coords}
use Rattle.rules.specs.Sheets.{Sheet}
use Rattle.rules.specs.Pulling.{Placing}
use Rattle.rules.specs.Calls.{opening}
use Rattle.rules.specs.Runs.{Use, Call, pull, Given, placing, Reply, step, Answers, opened}
use Rattle.law.specs.Placings.{Shaped, Same, AllHold, Meets, Nearer}
use Rattle.law.specs.Histories.{Entry, Told, at_opening, tell, is_open}

-- The sheet's values over d as a placing of n parameters.
abbrev pub shown : ℕ → Entry → Placing
shown n e = record { over = e.d; nums = take n e.values }

-- (a) The sheet's values over d are the kept values, over a denominator above 0, and every bound relation
-- holds exactly for them. They are the kept ones number for number, which is more than the same fractions.
pub record KeptAndHeld (size n : ℕ) (t : Told) (e : Entry) : Type 0 where
  pub shaped : Shaped size n (shown n e)
  pub kept : shown n e ≡ t.kept
  pub holds : AllHold size n t.bound (shown n e)

-- A call comes back with 19 exactly when it is not open, as the sheet stands by the history.
abbrev pub OpenRightly : Told → Call → Reply → Type 0
OpenRightly t k r = (r ≡ Err NotOpen) ↔ (is_open t.stage k ≡ false)

-- A placing meets all that a pull to these wishes has to meet.
abbrev pub MeetsAll : ℕ → ℕ → Told → List Coords → Placing → Type 0
MeetsAll size n t wishes z = Meets size n t.bound t.roles t.kept wishes z

-- (b) An open pull that comes back neither with 1, 11 nor 12 is refused with 13 exactly when no placing
-- meets all. Where it is not refused with 13 a placing that meets all is given: so also with 14 and 15.
pub record Judged (size n : ℕ) (t : Told) (wishes : List Coords) (r : Reply) : Type 0 where
  pub impossible : (r ≡ Err Impossible) ↔ ((z : Placing) → ¬ (MeetsAll size n t wishes z))
  pub possible : r ≢ Err Impossible → (z : Placing) × MeetsAll size n t wishes z

abbrev pub RefusedRightly : ℕ → ℕ → Told → List Coords → Reply → Type 0
RefusedRightly size n t wishes r = is_open t.stage (pull wishes) ≡ true → r ≢ Err Unfit → r ≢ Err WishTooFar → r ≢ Err GapTooLarge
    → Judged size n t wishes r

-- (c) An accepted pull proposes a placing that meets all, and by every inner product every other one is
-- strictly farther from the wishes.
abbrev pub ProposesNearest : ℕ → ℕ → Told → List Coords → Reply → Type 0
ProposesNearest size n t wishes r = (g : Given) → r ≡ Ok g → (p : Placing) × (g ≡ placing p) × MeetsAll size n t wishes p
    × ((inner : Coords → Coords → ℤ) → InnerProduct size inner → (z : Placing) → MeetsAll size n t wishes z → ¬ (Same size n p z)
    → Nearer size inner n t.roles wishes p z)

-- What the law says of a pull's reply, by what was told before the call. The law names no other reply.
abbrev pub LawfulReply : ℕ → ℕ → Told → Call → Reply → Type 0
LawfulReply size n t (pull wishes) r = RefusedRightly size n t wishes r × ProposesNearest size n t wishes r
LawfulReply size n t k r = Unit {0}

-- An entry by what was told before it. Its values are those that are told with it.
pub record LawfulEntry (size n : ℕ) (t : Told) (e : Entry) : Type 0 where
  pub kept_and_held : KeptAndHeld size n (tell n t e.call e.reply) e
  pub open_rightly : OpenRightly t e.call e.reply
  pub lawful_reply : LawfulReply size n t e.call e.reply

-- Every entry is lawful, by what the entries before it told.
abbrev pub LawfulFrom : ℕ → ℕ → Told → List Entry → Type 0
LawfulFrom size n t [] = Unit {0}
LawfulFrom size n t (e ∷ h) = LawfulEntry size n t e × LawfulFrom size n (tell n t e.call e.reply) h

-- From an opening on.
abbrev pub Lawful : ℕ → ℕ → List Entry → Type 0
Lawful size n h = LawfulFrom size n (at_opening size n) h

-- ---- the theorem
-- An entry that the rules permit on a sheet in use: the reply is the defined one, but for the order of
-- spare numbers, and so are the values after it.
pub record Permitted (size : ℕ) (u : Use) (e : Entry) : Type 0 where
  pub reply : Answers (step size u e.call).reply e.reply
  pub values : e.values ≡ (step size u e.call).then.values
  pub d : e.d ≡ (step size u e.call).then.sheet.d

-- A history that a series of calls makes: any calls in any order, refused ones and those that are not
-- open included.
abbrev pub Made : ℕ → Use → List Entry → Type 0
Made size u [] = Unit {0}
Made size u (e ∷ h) = Permitted size u e × Made size (step size u e.call).then h

-- Every history from an accepted opening is lawful, whatever the lists hold and however long they are.
abbrev pub LawForRuns : Type 0
LawForRuns = (size n : ℕ) (values : List Coords) (s : Sheet) → (opening size n values).0 ≡ Ok s
    → (relations : List Relation) (constants proposal working : List Coords) (places : ℕ) (h : List Entry)
    → Made size (opened s (opening size n values).1 relations constants proposal working places) h → Lawful size n h
