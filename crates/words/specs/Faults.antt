-- Results of steps that may fail.
use Rattle.std.specs.Prelude.{◌≡◌, Ok, Err, Result}
use Rattle.words.specs.declared.fault.Fault.{Fault}
use Rattle.words.specs.declared.fault.Fault.TheVariants.{Form, Memory}

-- a step that only want of memory stops
abbrev pub Done : {A : Type 0} → Result A Fault → Type 0 → Type 0
Done (Ok a) P = P
Done (Err e) P = e ≡ Memory

-- what a refusal for its form tells; want of memory tells nothing
abbrev pub Refuses : Fault → Type 0 → Type 0
Refuses Form P = P
Refuses Memory P = Unit {0}
