-- A sheet in use: calls that share the sheet and its lists, each given what the ones before it gave back.
use Rattle.std.specs.Prelude.{◌≡◌, ℕ, List, [], ◌∷◌, take, replicate, ℤ, Ok, Err, Result}
use Rattle.std.specs.List.Sorted.{IsPermutation}
use Rattle.records.specs.declared.refusal.Refusal.{Refusal}
use Rattle.records.specs.declared.refusal.Refusal.TheVariants.{NotOpen}
use Rattle.records.specs.declared.relation.Relation.{Relation}
use Rattle.records.specs.declared.role.Role.{Role}
use Rattle.rules.specs.Values.{Coords}
use Rattle.rules.specs.Sheets.{Sheet, Workings}
use Rattle.rules.specs.Pulling.{Placing}
use Rattle.rules.specs.Calls.{Bound, binding, unbinding, grip_answer, marks_after, spare_numbers, Pulled, pulling, keeping, dropping}

-- Without a grip, with one, or with one and a proposal over its denominator.
pub data Phase : Type 0 where
  free : Phase
  gripped : Workings → Phase
  proposing : Workings → ℤ → Phase

-- Everything that the calls share. Of the list for the spare numbers only its count of places matters.
pub record Use : Type 0 where
  pub sheet : Sheet
  pub values : List Coords
  pub relations : List Relation
  pub constants : List Coords
  pub proposal : List Coords
  pub working : List Coords
  pub places : ℕ
  pub phase : Phase

pub data Call : Type 0 where
  bind : List ℤ → Coords → Call
  unbind : ℤ → Call
  grip : List Role → Call
  pull : List Coords → Call
  keep : Call
  drop_grip : Call

-- What an accepted call gives back: a grip the spare numbers, a pull its proposal over its denominator, the others nothing.
pub data Given : Type 0 where
  nothing : Given
  spares : List ℕ → Given
  placing : Placing → Given

abbrev pub Reply : Type 0
Reply = Result Given Refusal

-- The reply to a call, and what the calls share after it.
pub record Outcome : Type 0 where
  pub reply : Reply
  pub then : Use

-- A refused call that changes nothing.
abbrev pub stays : Use → Refusal → Outcome
stays u e = record { reply = Err e; then = u }

abbrev pub reply_to : Result (Unit {0}) Refusal → Reply
reply_to (Ok x) = Ok nothing
reply_to (Err e) = Err e

-- After binding and unbinding, which need a sheet without a grip.
abbrev pub rebound : Use → Bound → Outcome
rebound u b = record {
  reply = reply_to b.0;
  then = record {
    sheet = b.1;
    values = u.values;
    relations = b.2;
    constants = b.3;
    proposal = u.proposal;
    working = u.working;
    places = u.places;
    phase = free;
  };
}

-- After gripping: the marks are written, and the workings stand. The spare numbers are in rising order here.
abbrev pub held_by : Use → Result Workings Refusal → Outcome
held_by u (Err e) = stays u e
held_by u (Ok w) = record {
  reply = Ok (spares (spare_numbers w u.sheet u.relations u.constants));
  then = record {
    sheet = u.sheet;
    values = u.values;
    relations = marks_after (Ok w) u.sheet u.relations u.constants;
    constants = u.constants;
    proposal = u.proposal;
    working = u.working;
    places = u.places;
    phase = gripped w;
  };
}

-- After pulling: an accepted pull's proposal stands, a refused one leaves the grip without a proposal.
abbrev pub phase_after : Workings → Result ℤ Refusal → Phase
phase_after w (Ok e) = proposing w e
phase_after w (Err e) = gripped w

abbrev pub told : ℕ → List Coords → Result ℤ Refusal → Reply
told n proposal (Ok e) = Ok (placing (record { over = e; nums = take n proposal }))
told n proposal (Err e) = Err e

abbrev pub pulled_to : Use → Workings → Pulled → Outcome
pulled_to u w p = record {
  reply = told u.sheet.count p.1 p.0;
  then = record {
    sheet = u.sheet;
    values = u.values;
    relations = u.relations;
    constants = u.constants;
    proposal = p.1;
    working = p.2;
    places = u.places;
    phase = phase_after w p.0;
  };
}

-- After keeping and dropping: the sheet is without a grip; a refused keep leaves grip and proposal standing.
abbrev pub freed : Use → Result Sheet Refusal → List Coords → Outcome
freed u (Err e) vs = stays u e
freed u (Ok s) vs = record {
  reply = Ok nothing;
  then = record {
    sheet = s;
    values = vs;
    relations = u.relations;
    constants = u.constants;
    proposal = u.proposal;
    working = u.working;
    places = u.places;
    phase = free;
  };
}

abbrev pub binds : ℕ → Use → List ℤ → Coords → Outcome
binds size u cs q = rebound u (binding size u.sheet u.values u.relations u.constants cs q)

abbrev pub unbinds : ℕ → Use → ℤ → Outcome
unbinds size u i = rebound u (unbinding size u.sheet u.values u.relations u.constants i)

abbrev pub grips : ℕ → Use → List Role → Outcome
grips size u roles = held_by u (grip_answer size u.sheet u.values u.relations u.constants roles (replicate u.places 0))

abbrev pub pulls : ℕ → Use → Workings → List Coords → Outcome
pulls size u w wishes = pulled_to u w (pulling size u.sheet u.values u.relations u.constants w wishes u.proposal u.working)

abbrev pub keeps : ℕ → Use → ℤ → Outcome
keeps size u e = let k = keeping size u.sheet u.values u.relations u.constants u.proposal e in freed u k.0 k.1

abbrev pub drops : Use → Outcome
drops u = freed u (Ok (dropping u.sheet)) u.values

-- One call. Without a grip a sheet is bound, unbound or gripped; with one it is pulled or dropped; with a proposal it is also kept. A call that
-- the phase does not permit is refused with 19 and changes nothing.
abbrev pub in_turn : ℕ → Use → Phase → Call → Outcome
in_turn size u free (bind cs q) = binds size u cs q
in_turn size u free (unbind i) = unbinds size u i
in_turn size u free (grip roles) = grips size u roles
in_turn size u free (pull wishes) = stays u NotOpen
in_turn size u free keep = stays u NotOpen
in_turn size u free drop_grip = stays u NotOpen
in_turn size u (gripped w) (bind cs q) = stays u NotOpen
in_turn size u (gripped w) (unbind i) = stays u NotOpen
in_turn size u (gripped w) (grip roles) = stays u NotOpen
in_turn size u (gripped w) (pull wishes) = pulls size u w wishes
in_turn size u (gripped w) keep = stays u NotOpen
in_turn size u (gripped w) drop_grip = drops u
in_turn size u (proposing w e) (bind cs q) = stays u NotOpen
in_turn size u (proposing w e) (unbind i) = stays u NotOpen
in_turn size u (proposing w e) (grip roles) = stays u NotOpen
in_turn size u (proposing w e) (pull wishes) = pulls size u w wishes
in_turn size u (proposing w e) keep = keeps size u e
in_turn size u (proposing w e) drop_grip = drops u

abbrev pub step : ℕ → Use → Call → Outcome
step size u k = in_turn size u u.phase k

-- What may come back where the definition has a reply: spare numbers in any order, everything else as defined.
abbrev pub Answers : Reply → Reply → Type 0
Answers (Ok nothing) r = r ≡ Ok nothing
Answers (Ok (spares xs)) r = (ys : List ℕ) × (r ≡ Ok (spares ys)) × IsPermutation xs ys
Answers (Ok (placing p)) r = r ≡ Ok (placing p)
Answers (Err e) r = r ≡ Err e

-- A sheet just opened, with the caller's lists.
abbrev pub opened : Sheet → List Coords → List Relation → List Coords → List Coords → List Coords → ℕ → Use
opened s vs rs qs proposal working places = record {
  sheet = s;
  values = vs;
  relations = rs;
  constants = qs;
  proposal = proposal;
  working = working;
  places = places;
  phase = free;
}

-- The replies to a series of calls, the first call first.
abbrev pub replies : ℕ → Use → List Call → List Reply
replies size u [] = []
replies size u (k ∷ ks) = let x = step size u k in x.reply ∷ replies size x.then ks
