-- What a series of calls gave.
use Rattle.std.specs.Prelude.{◌≡◌, ℕ, List, map, Ok, Err, vec_items, Result}
use Rattle.rules.specs.Sheets.{Sheet}
use Rattle.rules.specs.Values.{Coords}
use Rattle.rules.specs.Calls.{opening}
use Rattle.rules.specs.Runs.{Call}
use Rattle.law.specs.Run.{Run}
use Rattle.calls.specs.Shown.{reply_of}
use Rattle.steps.specs.Lists.{by_parameter}
use Rattle.desk.specs.Desks.{fresh}
use Rattle.desk.specs.declared.fault.Fault.{Fault}
use Rattle.desk.specs.declared.fault.Fault.TheVariants.{Refused, Memory}
use Rattle.series.specs.declared.running.Ran.{Ran}

-- The calls make a run, with these answers and these values at the end, by which the law holds; or the opening is refused; or there was no memory.
abbrev pub RanLawfully : {K : Type 0} → ℕ → (K → Coords) → ℕ → List Call → Result (Ran K) Fault → Type 0
RanLawfully size f n calls (Ok r) = (sheet : Sheet) × ((opening size n (by_parameter size)).0 ≡ Ok sheet)
    × Run size n (fresh size n sheet) calls (map (reply_of f) (vec_items r.answers)) (record { over = r.denominator; nums = map f (vec_items r.values) })
RanLawfully size f n calls (Err (Refused e)) = (opening size n (by_parameter size)).0 ≡ Err e
RanLawfully size f n calls (Err Memory) = Unit {0}
