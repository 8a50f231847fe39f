-- A call comes back with 19 exactly when it is not open.
use Rattle.std.proofs.Common.{◌≡◌, ℕ, true, false, ◌||◌, ◌≢◌, ◌↔◌, List, replicate, ℤ, Err, Result, refl, ap, arith, Ok}
use mathlib.Core.Bool.{true≢false}
use Rattle.std.proofs.lemmas.Bool.{cond_both}
use Rattle.records.specs.Numbers.{number_of}
use Rattle.records.specs.declared.refusal.Refusal.{Refusal}
use Rattle.records.specs.declared.refusal.Refusal.TheVariants.{Unfit, NotOpen}
use Rattle.rules.specs.Values.{Coords}
use Rattle.rules.specs.Sheets.{Sheet, Workings, bonds, unfit, unfit_values}
use Rattle.rules.specs.Gripping.{counted}
use Rattle.rules.specs.Pulling.{Placing, proposed}
use Rattle.rules.specs.Calls.{bind_answer, bind_by, unbind_answer, unbind_by, grip_answer, Pulled, pull_by, unfit_pull}
use Rattle.rules.specs.Runs.{Phase, free, gripped, proposing, Use, Call, bind, unbind, grip, pull, keep, drop_grip, nothing, Reply, Answers, reply_to, held_by, told, freed, pulls, keeps, in_turn}
use Rattle.law.specs.Histories.{is_open}
use Rattle.law.specs.Standing.{stage_of}
use Rattle.law.proofs.Refusals.{fine, same_refusal, defined_too, bind_refusals, unbind_refusals, grip_refusals, pull_refusals}

-- ---- no open call gives 19
other_number : Unfit ≢ NotOpen
other_number e = let q = ap number_of e in omega arith

module _ (size : ℕ) (u : Use) where
  abbrev s : Sheet
  s = u.sheet

  abbrev Opened : Reply → Type 0
  Opened r = r ≢ Err NotOpen

  unfit_opened : Opened (Err Unfit)
  unfit_opened h = let e : Unfit ≡ NotOpen = cc in other_number e

  bind_opened : (cs : List ℤ) (q : Coords) (a : Result (Unit {0}) Refusal) → a ≢ Err NotOpen → Opened (reply_to (bind_by a s u.relations u.constants cs q).0)
  bind_opened cs q (Ok x) d h = fine nothing h
  bind_opened cs q (Err e) d h = d (same_refusal e NotOpen h)

  unbind_opened : (i : ℕ) (a : Result (Unit {0}) Refusal) → a ≢ Err NotOpen → Opened (reply_to (unbind_by a s u.relations u.constants i).0)
  unbind_opened i (Ok x) d h = fine nothing h
  unbind_opened i (Err e) d h = d (same_refusal e NotOpen h)

  grip_opened : (a : Result Workings Refusal) → a ≢ Err NotOpen → Opened (held_by u a).reply
  grip_opened (Ok w) d h = fine _ h
  grip_opened (Err e) d h = d (same_refusal e NotOpen h)

  pull_opened : (n : ℕ) (a : Result Placing Refusal) → a ≢ Err NotOpen → let P = pull_by size n u.proposal u.working a in Opened (told n P.1 P.0)
  pull_opened n (Ok p) d h = fine _ h
  pull_opened n (Err e) d h = d (same_refusal e NotOpen h)

  pulls_opened : (w : Workings) (wishes : List Coords) → Opened (pulls size u w wishes).reply
  pulls_opened w wishes = cond_both (unfit_pull size s u.values u.relations u.constants w wishes u.proposal u.working) _ _ (λ (P : Pulled). Opened (told s.count P.1 P.0))
      (λ e. unfit_opened)
      (λ e. pull_opened s.count (proposed size s.count w.roles w.shares (counted s.count w.roles (bonds s u.relations u.constants)) w.table s.d u.values wishes)
      (pull_refusals NotOpen size s.count w.roles w.shares (counted s.count w.roles (bonds s u.relations u.constants)) w.table s.d u.values wishes (λ x a b q. omega arith)))

  keeps_opened : (e : ℤ) → Opened (keeps size u e).reply
  keeps_opened e = cond_both (unfit size s u.values u.relations u.constants || unfit_values size s.count e u.proposal) _ _
      (λ (k : Result Sheet Refusal × List Coords). Opened (freed u k.0 k.1).reply)
      (λ q. unfit_opened)
      (λ q. fine nothing)

  -- ---- any call, in any phase
  abbrev Rightly : Phase → Call → Reply → Type 0
  Rightly p k r = (r ≡ Err NotOpen) ↔ (is_open (stage_of p) k ≡ false)

  closed : (r : Reply) → r ≡ Err NotOpen → (r ≡ Err NotOpen) ↔ (false ≡ false)
  closed r h = ((λ q. refl), λ q. h)

  opened : (d r : Reply) → Answers d r → Opened d → (r ≡ Err NotOpen) ↔ (true ≡ false)
  opened d r h o = ((λ q. absurd (o (defined_too NotOpen d r h q))), λ q. absurd (true≢false q))

  pub open_rightly : (p : Phase) (k : Call) (r : Reply) → Answers (in_turn size u p k).reply r → Rightly p k r
  open_rightly free (bind cs q) r h = opened _ r h (bind_opened cs q (bind_answer size s u.values u.relations u.constants cs q)
      (λ e. other_number (bind_refusals NotOpen size s u.values u.relations u.constants (λ x a b q. omega arith) cs q e).1))
  open_rightly free (unbind i) r h = opened _ r h (unbind_opened _ (unbind_answer size s u.values u.relations u.constants i)
      (λ e. other_number (unbind_refusals NotOpen size s u.values u.relations u.constants (λ x a b q. omega arith) i e).1))
  open_rightly free (grip roles) r h = opened _ r h (grip_opened (grip_answer size s u.values u.relations u.constants roles (replicate u.places 0))
      (λ e. other_number (grip_refusals NotOpen size s u.values u.relations u.constants (λ x a b q. omega arith) roles (replicate u.places 0) e).1))
  open_rightly free (pull wishes) r h = closed r h
  open_rightly free keep r h = closed r h
  open_rightly free drop_grip r h = closed r h
  open_rightly (gripped w) (bind cs q) r h = closed r h
  open_rightly (gripped w) (unbind i) r h = closed r h
  open_rightly (gripped w) (grip roles) r h = closed r h
  open_rightly (gripped w) (pull wishes) r h = opened _ r h (pulls_opened w wishes)
  open_rightly (gripped w) keep r h = closed r h
  open_rightly (gripped w) drop_grip r h = opened (Ok nothing) r h (fine nothing)
  open_rightly (proposing w e) (bind cs q) r h = closed r h
  open_rightly (proposing w e) (unbind i) r h = closed r h
  open_rightly (proposing w e) (grip roles) r h = closed r h
  open_rightly (proposing w e) (pull wishes) r h = opened _ r h (pulls_opened w wishes)
  open_rightly (proposing w e) keep r h = opened _ r h (keeps_opened e)
  open_rightly (proposing w e) drop_grip r h = opened (Ok nothing) r h (fine nothing)
