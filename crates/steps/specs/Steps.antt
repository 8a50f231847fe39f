-- A sheet in its state with its lists, and what one call makes of them.
use Rattle.std.specs.Prelude.{◌≡◌, map, length, Ok, Err, vec_items, box_value, Result}
use Rattle.std.specs.declared.alloc.AllocError.{AllocError}
use Rattle.rules.specs.Sheets as rules
use Rattle.rules.specs.Runs as runs
use Rattle.rules.specs.Values.{Coords}
use Rattle.sheets.specs.Shown.{numbers}
use Rattle.workings.specs.Shown.{shown}
use Rattle.grips.specs.Shown.{gripped_sheet}
use Rattle.calls.specs.Shown.{Answer, reply_of}
use Rattle.steps.specs.declared.state.State.{State}
use Rattle.steps.specs.declared.state.State.TheVariants as s
use Rattle.steps.specs.declared.lists.Lists.{Lists}

-- The lists with a sheet in a phase.
abbrev pub in_use : {K : Type 0} → (K → Coords) → Lists K → rules.Sheet → runs.Phase → runs.Use
in_use f l sheet phase = record {
  sheet = sheet;
  values = map f (vec_items l.values);
  relations = vec_items l.relations;
  constants = map f (vec_items l.constants);
  proposal = map f (vec_items l.proposal);
  working = map f (vec_items l.working);
  places = length (vec_items l.spare);
  phase = phase;
}

abbrev pub use_in : {K : Type 0} → (K → Coords) → Lists K → State → runs.Use
use_in f l (s.Free sheet) = in_use f l (numbers sheet) runs.free
use_in f l (s.Gripped h) = in_use f l (gripped_sheet h.grip) (runs.gripped (shown (box_value h.workings)))
use_in f l (s.Proposed o) = in_use f l (gripped_sheet o.held.grip) (runs.proposing (shown (box_value o.held.workings)) o.denominator)

-- A state and an answer by what they mean, whatever the lists hold.
pub record Means {K : Type 0} (f : K → Coords) (sheet : rules.Sheet) (phase : runs.Phase) (reply : runs.Reply) (r : State × Answer K) : Type 0 where
  pub state : (l : Lists K) → use_in f l r.0 ≡ in_use f l sheet phase
  pub answer : reply_of f r.1 ≡ reply

-- The state and the lists after a call are what the rules say, and so is what came back.
pub record Stepped {K : Type 0} (f : K → Coords) (o : runs.Outcome) (l : Lists K) (r : State × Answer K) : Type 0 where
  pub then : use_in f l r.0 ≡ o.then
  pub reply : runs.Answers o.reply (reply_of f r.1)

-- The same where there was memory for it.
abbrev pub SteppedIn : {K : Type 0} → (K → Coords) → runs.Outcome → Lists K → Result (State × Answer K) AllocError → Type 0
SteppedIn f o l (Ok r) = Stepped f o l r
SteppedIn f o l (Err e) = Unit {0}
