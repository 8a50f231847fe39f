-- Runs of calls on a sheet.
use Rattle.std.specs.Prelude.{◌≡◌, ℕ, List, [], ◌∷◌, map, Ok}
use Rattle.records.specs.declared.relation.Relation.{Relation}
use Rattle.rules.specs.Values.{Coords}
use Rattle.rules.specs.Sheets.{Sheet}
use Rattle.rules.specs.Pulling.{Placing}
use Rattle.rules.specs.Calls.{opening}
use Rattle.rules.specs.Runs.{Use, Call, Reply, step, opened}
use Rattle.law.specs.Histories.{Entry, at_opening}
use Rattle.law.specs.Law.{shown, Lawful, Made}
use Rattle.law.specs.Plenty.{LongLists, LongCalls, NeverUnfit}

-- What the calls share after a history, from what they shared before it.
abbrev pub use_after : ℕ → Use → List Entry → Use
use_after size u [] = u
use_after size u (e ∷ h) = use_after size (step size u e.call).then h

-- On a sheet of n parameters in use, just opened, these calls made this history.
pub record Ran (size n : ℕ) (u : Use) (calls : List Call) (h : List Entry) : Type 0 where
  -- one entry to a call, in their order
  pub calls_are : map (λ e. e.call) h ≡ calls
  -- the law for runs
  pub lawful : Lawful size n h
  -- what came back, and the values after each call, are what the rules say
  pub by_rules : Made size u h
  -- where the lists are long enough no call is refused with 1
  pub fits : LongLists n u → LongCalls n h → NeverUnfit h

-- From an accepted opening every history that these calls make is such a run, whatever the lists hold and
-- however long they are.
abbrev pub RanFromOpening : Type 0
RanFromOpening = (size n : ℕ) (values : List Coords) (s : Sheet) → (opening size n values).0 ≡ Ok s
    → (relations : List Relation) (constants proposal working : List Coords) (places : ℕ)
    → let u = opened s (opening size n values).1 relations constants proposal working places in
    (calls : List Call) (h : List Entry) → map (λ e. e.call) h ≡ calls → Made size u h → Ran size n u calls h

-- The sheet's values after a history, from those before it.
abbrev pub shown_from : ℕ → Placing → List Entry → Placing
shown_from n p [] = p
shown_from n p (e ∷ h) = shown_from n (shown n e) h

-- From the opening of a sheet of n parameters these calls were made in their order. This is what each gave
-- back, and these are the sheet's values at the end.
pub record Run (size n : ℕ) (u : Use) (calls : List Call) (replies : List Reply) (end : Placing) : Type 0 where
  pub history : List Entry
  pub calls_are : map (λ e. e.call) history ≡ calls
  pub replies_are : map (λ e. e.reply) history ≡ replies
  pub ends : shown_from n (at_opening size n).kept history ≡ end
  -- the law for runs
  pub lawful : Lawful size n history
  -- what came back, and the values after each call, are what the rules say
  pub by_rules : Made size u history
  -- no call whose list is long enough is refused with 1
  pub fits : LongCalls n history → NeverUnfit history
