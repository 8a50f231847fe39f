-- A desk as a sheet in use, and what its calls give back.
use Rattle.std.specs.Prelude.{◌≡◌, ℕ, Ok, Err, Result}
use Rattle.std.specs.declared.alloc.AllocError.{AllocError}
use Rattle.rules.specs.Limits.{most_counted}
use Rattle.rules.specs.Sheets as rules
use Rattle.rules.specs.Calls.{opening}
use Rattle.rules.specs.Runs as runs
use Rattle.rules.specs.Values.{Coords}
use Rattle.calls.specs.Shown.{Answer, reply_of}
use Rattle.steps.specs.Lists.{by_parameter, by_relation, by_working, no_relations}
use Rattle.steps.specs.Steps.{use_in}
use Rattle.desk.specs.declared.desk.Desk.{Desk}
use Rattle.desk.specs.declared.fault.Fault.{Fault}
use Rattle.desk.specs.declared.fault.Fault.TheVariants.{Refused, Memory}

abbrev pub use_of : {K : Type 0} → (K → Coords) → Desk K → runs.Use
use_of f desk = use_in f desk.lists desk.state

-- A sheet of n parameters just opened, with a desk's lists.
abbrev pub fresh : ℕ → ℕ → rules.Sheet → runs.Use
fresh size n sheet = runs.opened sheet (opening size n (by_parameter size)).1 no_relations (by_relation size) (by_parameter size) (by_working size) most_counted

-- What opening a desk of n parameters gave.
abbrev pub Opened : {K : Type 0} → ℕ → (K → Coords) → ℕ → Result (Desk K) Fault → Type 0
Opened size f n (Ok desk) = (sheet : rules.Sheet) × ((opening size n (by_parameter size)).0 ≡ Ok sheet) × (use_of f desk ≡ fresh size n sheet)
Opened size f n (Err (Refused e)) = (opening size n (by_parameter size)).0 ≡ Err e
Opened size f n (Err Memory) = Unit {0}

-- What a call gave, and the desk after it.
abbrev pub Called : {K : Type 0} → (K → Coords) → runs.Outcome → Result (Desk K × Answer K) AllocError → Type 0
Called f o (Ok r) = (use_of f r.0 ≡ o.then) × runs.Answers o.reply (reply_of f r.1)
Called f o (Err e) = Unit {0}
