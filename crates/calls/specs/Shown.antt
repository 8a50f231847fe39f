-- The code's calls and answers as the rules have them, by a value's coordinates.
use Rattle.std.specs.Prelude.{map, Result, vec_items}
use Rattle.records.specs.declared.refusal.Refusal.{Refusal}
use Rattle.records.specs.declared.role.Role.{Role}
use Rattle.records.specs.Outcomes.{image}
use Rattle.rules.specs.Runs as runs
use Rattle.rules.specs.Values.{Coords}
use Rattle.calls.specs.declared.answer.Given.{Given}
use Rattle.calls.specs.declared.answer.Given.TheVariants as g
use Rattle.calls.specs.declared.call.Call.{Call}
use Rattle.calls.specs.declared.call.Call.TheVariants as c

abbrev pub call_of : {K : Type 0} → (K → Coords) → Call K Role → runs.Call
call_of f (c.Bind coefficients q) = runs.bind (vec_items coefficients) (f q)
call_of f (c.Unbind number) = runs.unbind number
call_of f (c.Grip roles) = runs.grip (vec_items roles)
call_of f (c.Pull wishes) = runs.pull (map f (vec_items wishes))
call_of f c.Keep = runs.keep
call_of f c.Drop = runs.drop_grip

abbrev pub given_of : {K : Type 0} → (K → Coords) → Given K → runs.Given
given_of f g.Nothing = runs.nothing
given_of f (g.Spares numbers) = runs.spares (vec_items numbers)
given_of f (g.Placing d numerators) = runs.placing (record { over = d; nums = map f (vec_items numerators) })

-- What a call gave back, or why it was refused.
abbrev pub Answer : Type 0 → Type 0
Answer K = Result (Given K) Refusal

abbrev pub reply_of : {K : Type 0} → (K → Coords) → Answer K → runs.Reply
reply_of f r = image (given_of f) r
