-- The calls that a card's lines ask for.
use Rattle.std.specs.Prelude.{◌≡◌, ℕ, Bool, is_some, List, [], ◌∷◌, map, Some, None, Ok, Err, Option, Result, vec_items}
use Rattle.words.specs.declared.fault.Fault.{Fault}
use Rattle.words.specs.declared.fault.Fault.TheVariants.{Memory}
use Rattle.forms.specs.Rows.{Each}
use Rattle.cells.specs.Cells.{role_of}
use Rattle.lines.specs.Lines.{Said, binds, unbinds, grips, pulls, keeps, drops, Spelled}
use Rattle.rules.specs.Values.{Coords}
use Rattle.rules.specs.Runs.{Call, bind, unbind, grip, pull, keep, drop_grip}
use Rattle.calls.specs.Shown.{call_of}
use Rattle.scripts.specs.declared.script.Script.{Script}

-- the call that a line asks for, by what it says: a cell gives its role, and a value its coordinates
abbrev pub asked : {V : Type 0} → (V → Coords) → Said V → Call
asked f (binds cs q) = bind cs (f q)
asked f (unbinds n) = unbind n
asked f (grips cells) = grip (map role_of cells)
asked f (pulls vs) = pull (map f vs)
asked f keeps = keep
asked f drops = drop_grip

-- a line asks for the call that its bytes spell, and for none where they spell no line
abbrev pub Asks : {V : Type 0} → (List ℕ → V → Type 0) → (V → Coords) → ℕ → List ℕ → Option Call → Type 0
Asks form f count line (Some call) = (s : Said _) × Spelled form count line s × (call ≡ asked f s)
Asks form f count line None = (s : Said _) → Spelled form count line s → ⊥

-- the calls that were asked for
abbrev pub made : List (Option Call) → List Call
made [] = []
made (None ∷ asks) = made asks
made (Some call ∷ asks) = call ∷ made asks

-- the calls that lines ask for, and of each line whether it asks for one
pub record Scripted {V : Type 0} (form : List ℕ → V → Type 0) (f : V → Coords) (count : ℕ) (ls : List (List ℕ)) (calls : List Call) (marks : List Bool) : Type 0 where
  pub asks : List (Option Call)
  pub each : Each (Asks form f count) ls asks
  pub calls_are : calls ≡ made asks
  pub marks_are : marks ≡ map is_some asks

abbrev pub ScriptRead : {V : Type 0} → (List ℕ → V → Type 0) → (V → Coords) → ℕ → List (List ℕ) → Result (Script V) Fault → Type 0
ScriptRead form f count ls (Ok script) = Scripted form f count ls (map (call_of f) (vec_items script.calls)) (vec_items script.made)
ScriptRead form f count ls (Err e) = e ≡ Memory
