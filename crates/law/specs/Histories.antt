-- Histories of calls on a sheet of n parameters, the oldest call first, and what they tell.
use Rattle.std.specs.Prelude.{ℕ, Bool, true, false, List, [], ◌∷◌, ◌++◌, take, ℤ, pos, Ok, Err, unsigned_abs}
use Rattle.std.specs.List.{remove}
use Rattle.records.specs.declared.role.Role.{Role}
use Rattle.rules.specs.Values.{Coords, zeros}
use Rattle.rules.specs.Sheets.{Bond, bond}
use Rattle.rules.specs.Pulling.{Placing}
use Rattle.rules.specs.Runs.{Call, bind, unbind, grip, pull, keep, drop_grip, Given, nothing, spares, placing, Reply}

-- A call, what came back, and the sheet's values and their denominator after it.
pub record Entry : Type 0 where
  pub call : Call
  pub reply : Reply
  pub values : List Coords
  pub d : ℤ

-- How a sheet stands: without a grip, with one, or with one and a proposal.
pub data Stage : Type 0 where
  no_grip : Stage
  with_grip : Stage
  with_proposal : Stage

-- What a history tells: the bound relations, the kept values, the last accepted pull's proposal,
-- the last accepted grip's roles and weights, and how the sheet stands.
pub record Told : Type 0 where
  pub bound : List Bond
  pub kept : Placing
  pub proposal : Placing
  pub roles : List Role
  pub stage : Stage

-- All values zero, over 1.
abbrev pub zero_placing : ℕ → ℕ → Placing
zero_placing size n = record { over = pos 1; nums = zeros n size }

-- At the opening nothing is bound, the kept values are zero, and there is no grip. Neither proposal nor
-- roles are read before an accepted pull and grip.
abbrev pub at_opening : ℕ → ℕ → Told
at_opening size n = record {
  bound = [];
  kept = zero_placing size n;
  proposal = zero_placing size n;
  roles = [];
  stage = no_grip;
}

-- An accepted pull's proposal.
abbrev pub proposal_in : Given → Placing → Placing
proposal_in nothing p = p
proposal_in (spares xs) p = p
proposal_in (placing q) p = q

-- What an accepted call changes. A binding adds its relation, and an unbinding removes one by number.
-- A grip gives the roles and weights. A pull proposes. A keep puts the last proposal in place of the
-- kept values. Keeping and dropping end the grip.
abbrev pub accepted : ℕ → Told → Call → Given → Told
accepted n t (bind cs q) g = record t { bound = t.bound ++ (bond n cs q ∷ []) }
accepted n t (unbind i) g = record t { bound = remove t.bound (unsigned_abs i) }
accepted n t (grip roles) g = record t { roles = take n roles; stage = with_grip }
accepted n t (pull wishes) g = record t { proposal = proposal_in g t.proposal; stage = with_proposal }
accepted n t keep g = record t { kept = t.proposal; stage = no_grip }
accepted n t drop_grip g = record t { stage = no_grip }

-- A refused pull takes an earlier proposal away; any other refused call changes nothing of what is told.
abbrev pub without_proposal : Stage → Stage
without_proposal with_proposal = with_grip
without_proposal s = s

abbrev pub after_refusal : Told → Call → Told
after_refusal t (pull wishes) = record t { stage = without_proposal t.stage }
after_refusal t k = t

-- What is told after a call, from what was told before it.
abbrev pub tell : ℕ → Told → Call → Reply → Told
tell n t k (Ok g) = accepted n t k g
tell n t k (Err e) = after_refusal t k

-- What is told after a history, from what was told before it.
abbrev pub told_from : ℕ → Told → List Entry → Told
told_from n t [] = t
told_from n t (e ∷ h) = told_from n (tell n t e.call e.reply) h

abbrev pub told : ℕ → ℕ → List Entry → Told
told size n h = told_from n (at_opening size n) h

-- Binding, unbinding and gripping are open without a grip; pulling and dropping with one; keeping with
-- a proposal. No other call is open.
abbrev pub is_open : Stage → Call → Bool
is_open no_grip (bind cs q) = true
is_open no_grip (unbind i) = true
is_open no_grip (grip roles) = true
is_open with_grip (pull wishes) = true
is_open with_grip drop_grip = true
is_open with_proposal (pull wishes) = true
is_open with_proposal keep = true
is_open with_proposal drop_grip = true
is_open s k = false
