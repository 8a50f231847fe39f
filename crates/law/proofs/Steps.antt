-- Each call keeps what stands between the sheet in use and what its history told.
use Rattle.std.proofs.Common.{◌≡◌, ℕ, ◌+◌, ◌<◌, ◌≤◌, ◌||◌, List, [], ◌∷◌, ◌++◌, length, take, replicate, ℤ, ◌*ℤ◌, nat_abs, Ok, Err, Result, sym, refl, ap, ◌∙◌, subst, ⊎_elim, arith}
use mathlib.Core.Bool.{false≢true}
use Rattle.std.specs.List.{remove}
use Rattle.std.proofs.lemmas.List.Edits.{length-remove, get_or-remove_below, get_or-remove_above}
use Rattle.std.proofs.lemmas.List.{get_or_append_left, get_or_push, length_push}
use Rattle.std.proofs.lemmas.Bool.{cond_both, or_parts, cases_lt}
use Rattle.whole.specs.Lists.{at, coord}
use Rattle.whole.specs.Sums.{sum_below}
use Rattle.whole.proofs.Lists.{tab-length}
use Rattle.whole.proofs.Sums.{sum_ext}
use Rattle.whole.proofs.Tests.{any_false, differ_false}
use Rattle.linear.proofs.Outcomes.{not_accepted}
use Rattle.records.specs.declared.refusal.Refusal.{Refusal}
use Rattle.records.specs.declared.refusal.Refusal.TheVariants.{NotOpen}
use Rattle.records.specs.declared.role.Role.{Role}
use Rattle.rules.specs.Values.{Coords, written}
use Rattle.rules.specs.Sheets.{Sheet, Bond, bond, no_bond, bonds, Workings, unfit_values, unfit}
use Rattle.rules.specs.Pulling.{Placing}
use Rattle.rules.specs.Calls.{Bound, binding, unbinding, bind_answer, bind_by, unbind_answer, unbind_by, grip_answer, keeping, pulling}
use Rattle.rules.specs.Runs.{Phase, free, gripped, proposing, Use, Call, bind, unbind, grip, pull, keep, drop_grip, nothing, Reply, Answers, reply_to, rebound, held_by, told, freed, pulls, in_turn}
use Rattle.rules.proofs.Accepted.{bindable, unbindable}
use Rattle.rules.proofs.Bonds.{nth, bonds-bound, bonds-unbound, bonds-marked, take-written}
use Rattle.rules.proofs.Fit.{fit_values, long_lists}
use Rattle.law.specs.Placings.{Holds, AllHold}
use Rattle.law.specs.Histories.{Stage, no_grip, with_grip, Told, without_proposal, after_refusal, tell, is_open}
use Rattle.law.specs.Law.{LawfulReply}
use Rattle.law.specs.Standing.{GrippedWell, ProposedWell, PhaseStands, stage_of, Standing}
use Rattle.law.proofs.Facts.{accepted-grip, gripped-well}
use Rattle.law.proofs.Pulls.{kept-nums, rephased, pull_lawful, pull_stands}

-- ---- relations added and removed
module _ (size n : ℕ) (p : Placing) where
  all_more : (bs : List Bond) (b : Bond) → AllHold size n bs p → Holds size n p b → AllHold size n (bs ++ (b ∷ [])) p
  all_more bs b all new i l = ⊎_elim
      (λ h. subst (λ (x : Bond). Holds size n p x) (sym (get_or_append_left bs (b ∷ []) no_bond i h)) (all i h))
      (λ h. let e = length_push bs b in let q : length bs ≡ i = omega arith in subst (λ (x : Bond). Holds size n p x) (sym (get_or_push bs b no_bond i q)) new)
      (cases_lt i (length bs))

  all_removed : (bs : List Bond) (k : ℕ) → k < length bs → AllHold size n bs p → AllHold size n (remove bs k) p
  all_removed bs k inside all i l =
      let e = length-remove bs k inside in
      ⊎_elim
      (λ h. subst (λ (x : Bond). Holds size n p x) (sym (get_or-remove_below bs k no_bond i h inside)) (all i (omega arith)))
      (λ h. subst (λ (x : Bond). Holds size n p x) (sym (get_or-remove_above bs k no_bond i h inside)) (all (i + 1) (omega arith)))
      (cases_lt i k)

-- ---- a reply that the definition pins
told-reply : (n : ℕ) (ps : List Coords) (a : Result ℤ Refusal) (r : Reply) → Answers (told n ps a) r → r ≡ told n ps a
told-reply n ps (Ok e) r h = h
told-reply n ps (Err e) r h = h

module _ (size n : ℕ) (t : Told) (u : Use) (S : Standing size n t u) where
  abbrev s : Sheet
  s = u.sheet

  abbrev bs : List Bond
  bs = bonds s u.relations u.constants

  -- a relation that holds for the sheet's values holds for the kept values
  for_kept : (b : Bond) → ((c : ℕ) → c < size → sum_below s.count (λ p. at b.coefs p *ℤ coord u.values p c) ≡ s.d *ℤ at b.constant c) → Holds size n t.kept b
  for_kept b h c l =
      sum_ext n (λ p k. ap (λ x. at b.coefs p *ℤ x) (sym (kept-nums size n t u S p k c l)))
      ∙ ap (λ (N : ℕ). sum_below N (λ p. at b.coefs p *ℤ coord u.values p c)) (sym S.count_is)
      ∙ h c l ∙ ap (λ x. x *ℤ at b.constant c) S.over_is

  -- without a grip it stands too
  freely : (stage : Stage) → no_grip ≡ stage → Standing size n (record t { stage = stage }) (freed u (Ok s) u.values).then
  freely stage e = rephased size n t u S t.proposal stage u.proposal u.working free e tt

  module _ (none : no_grip ≡ t.stage) where
    -- ---- binding
    bind_stands : (cs : List ℤ) (q : Coords) (a : Result (Unit {0}) Refusal) → bind_answer size s u.values u.relations u.constants cs q ≡ a
        → let o = rebound u (bind_by a s u.relations u.constants cs q) in Standing size n (tell n t (bind cs q) o.reply) o.then
    bind_stands cs q (Err k) e = freely t.stage none
    bind_stands cs q (Ok x) e =
        let B = bindable size s u.values u.relations u.constants cs q x e in
        let L = long_lists size s u.values u.relations u.constants B.fits in
        let few = B.few in
        record {
          count_is = S.count_is;
          few = omega arith;
          bound_is = bonds-bound s.count s.bound s.d s.d u.relations u.constants cs q (omega (arith, L.relations_long)) (omega (arith, L.constants_long)) B.long
              ∙ (λ i. S.bound_is i ++ (bond (S.count_is i) cs q ∷ []));
          over_is = S.over_is;
          values_are = S.values_are;
          shaped = S.shaped;
          holds = all_more size n t.kept t.bound (bond n cs q) S.holds (subst (λ (N : ℕ). Holds size n t.kept (bond N cs q)) S.count_is
              (for_kept (bond s.count cs q) (λ c l. differ_false _ _ (any_false size _ B.holds c l))));
          stage_is = none;
          phase_is = tt;
        }

    -- ---- unbinding
    unbind_stands : (i : ℤ) (a : Result (Unit {0}) Refusal) → unbind_answer size s u.values u.relations u.constants i ≡ a
        → let o = rebound u (unbind_by a s u.relations u.constants (nat_abs i)) in Standing size n (tell n t (unbind i) o.reply) o.then
    unbind_stands i (Err k) e = freely t.stage none
    unbind_stands i (Ok x) e =
        let B = unbindable size s u.values u.relations u.constants i x e in
        let L = long_lists size s u.values u.relations u.constants B.0 in
        let lt = B.1 in
        let long = ap (λ (xs : List Bond). length xs) (sym S.bound_is) ∙ tab-length s.bound (nth s.count u.relations u.constants) in
        record {
          count_is = S.count_is;
          few = let f = S.few in omega arith;
          bound_is = bonds-unbound s.count s.bound s.d s.d u.relations u.constants (nat_abs i) lt (let f = S.few in omega (arith, L.relations_long)) (let f = S.few in omega (arith, L.constants_long)) ∙ ap (λ (xs : List Bond). remove xs (nat_abs i)) S.bound_is;
          over_is = S.over_is;
          values_are = S.values_are;
          shaped = S.shaped;
          holds = all_removed size n t.kept t.bound (nat_abs i) (omega arith) S.holds;
          stage_is = none;
          phase_is = tt;
        }

  -- ---- gripping
  told-grip : (roles : List Role) (w : Workings) → GrippedWell s.count bs (take s.count roles) w → GrippedWell n t.bound (take n roles) w
  told-grip roles w G = subst (λ (N : ℕ). GrippedWell N t.bound (take N roles) w) S.count_is (subst (λ (xs : List Bond). GrippedWell s.count xs (take s.count roles) w) S.bound_is G)

  grip_stands : (roles : List Role) (a : Result Workings Refusal) → grip_answer size s u.values u.relations u.constants roles (replicate u.places 0) ≡ a
      → (r : Reply) → Answers (held_by u a).reply r → Standing size n (tell n t (grip roles) r) (held_by u a).then
  grip_stands roles (Err k) e r h = subst (λ (x : Reply). Standing size n (tell n t (grip roles) x) u) (sym h) S
  grip_stands roles (Ok w) e r h = subst (λ (x : Reply). Standing size n (tell n t (grip roles) x) (held_by u (Ok w)).then) (sym h.1) (record {
    count_is = S.count_is;
    few = S.few;
    bound_is = bonds-marked s u.relations u.constants w.roles w.table ∙ S.bound_is;
    over_is = S.over_is;
    values_are = S.values_are;
    shaped = S.shaped;
    holds = S.holds;
    stage_is = refl;
    phase_is = told-grip roles w (gripped-well s.count (take s.count roles) bs w (accepted-grip size s u.values u.relations u.constants roles (replicate u.places 0) w e));
  })

  -- ---- keeping and dropping
  keep_stands : (e : ℤ) → ProposedWell size n t.bound t.proposal u.proposal e → (w : Workings) → GrippedWell n t.bound t.roles w → (r : Reply)
      → let k = keeping size s u.values u.relations u.constants u.proposal e in Answers (freed u k.0 k.1).reply r → Standing size n (tell n t keep r) (freed u k.0 k.1).then
  keep_stands e P w G r = cond_both (unfit size s u.values u.relations u.constants || unfit_values size s.count e u.proposal) _ _ Stands
      (λ q h. subst (λ (x : Reply). Standing size n (tell n t keep x) u) (sym h) S)
      (λ q h. subst (λ (x : Reply). Standing size n (tell n t keep x) (freed u (Ok new) (written s.count u.proposal u.values)).then) (sym h) (record {
        count_is = S.count_is;
        few = S.few;
        bound_is = S.bound_is;
        over_is = P.over_is;
        values_are = values (fit_values size s.count e u.proposal (or_parts (unfit size s u.values u.relations u.constants) _ q).1).long;
        shaped = P.shaped;
        holds = P.holds;
        stage_is = refl;
        phase_is = tt;
      }))
    where
      new : Sheet
      new = record { count = s.count; bound = s.bound; d = e }

      Stands : Result Sheet Refusal × List Coords → Type 0
      Stands k = Answers (freed u k.0 k.1).reply r → Standing size n (tell n t keep r) (freed u k.0 k.1).then

      values : s.count ≤ length u.proposal → take n (written s.count u.proposal u.values) ≡ t.proposal.nums
      values long = ap (λ (N : ℕ). take N (written s.count u.proposal u.values)) (sym S.count_is) ∙ take-written s.count u.proposal u.values long
          ∙ ap (λ (N : ℕ). take N u.proposal) S.count_is ∙ P.nums_are

  drop_stands : (r : Reply) → r ≡ Ok nothing → Standing size n (tell n t drop_grip r) (freed u (Ok s) u.values).then
  drop_stands r h = subst (λ (x : Reply). Standing size n (tell n t drop_grip x) (freed u (Ok s) u.values).then) (sym h) (freely no_grip refl)

  -- ---- any call, in any phase
  abbrev Next : Call → Reply → Use → Type 0
  Next k r x = Standing size n (tell n t k r) x × LawfulReply size n t k r

  -- a call that is not open
  closed-call : (k : Call) → Standing size n (after_refusal t k) u → LawfulReply size n t k (Err NotOpen) → (r : Reply) → r ≡ Err NotOpen → Next k r u
  closed-call k T L r h = subst (λ (x : Reply). Next k x u) (sym h) (T, L)

  closed-pull : no_grip ≡ t.stage → (wishes : List Coords) (r : Reply) → r ≡ Err NotOpen → Next (pull wishes) r u
  closed-pull none wishes = closed-call (pull wishes)
      (rephased size n t u S t.proposal (without_proposal t.stage) u.proposal u.working u.phase (S.stage_is ∙ sym none ∙ ap without_proposal none) S.phase_is)
      ((λ o d1 d11 d12. absurd (false≢true (ap (λ (x : Stage). is_open x (pull wishes)) none ∙ o))), λ g h. absurd (not_accepted NotOpen g h))

  -- binding and unbinding give nothing back but a refusal
  rebound-after : (k : Call) → ((x : Reply) → LawfulReply size n t k x) → (b : Bound) → Standing size n (tell n t k (rebound u b).reply) (rebound u b).then
      → (r : Reply) → Answers (rebound u b).reply r → Next k r (rebound u b).then
  rebound-after k L b T r h = (subst (λ (x : Reply). Standing size n (tell n t k x) (rebound u b).then) (sym (pinned b.0 h)) T, L r)
    where
      pinned : (a : Result (Unit {0}) Refusal) → Answers (reply_to a) r → r ≡ reply_to a
      pinned (Ok x) h = h
      pinned (Err e) h = h

  pulled_after : (w : Workings) → GrippedWell n t.bound t.roles w → with_grip ≡ without_proposal t.stage → (wishes : List Coords) (r : Reply) → Answers (pulls size u w wishes).reply r
      → Next (pull wishes) r (pulls size u w wishes).then
  pulled_after w G held wishes r h =
      let P = pulling size s u.values u.relations u.constants w wishes u.proposal u.working in
      subst (λ (x : Reply). Next (pull wishes) x (pulls size u w wishes).then) (sym (told-reply s.count P.1 P.0 r h))
      (pull_stands size n t u S w G wishes held, pull_lawful size n t u S w G wishes)

  pub next : (p : Phase) → stage_of p ≡ t.stage → PhaseStands size n t u.proposal p → (k : Call) (r : Reply) → Answers (in_turn size u p k).reply r → Next k r (in_turn size u p k).then
  next free e F (bind cs q) r h = rebound-after (bind cs q) (λ x. tt) (binding size s u.values u.relations u.constants cs q) (bind_stands e cs q (bind_answer size s u.values u.relations u.constants cs q) refl) r h
  next free e F (unbind i) r h = rebound-after (unbind i) (λ x. tt) (unbinding size s u.values u.relations u.constants i) (unbind_stands e i (unbind_answer size s u.values u.relations u.constants i) refl) r h
  next free e F (grip roles) r h = (grip_stands roles (grip_answer size s u.values u.relations u.constants roles (replicate u.places 0)) refl r h, tt)
  next free e F (pull wishes) r h = closed-pull e wishes r h
  next free e F keep r h = closed-call keep S tt r h
  next free e F drop_grip r h = closed-call drop_grip S tt r h
  next (gripped w) e F (bind cs q) r h = closed-call (bind cs q) S tt r h
  next (gripped w) e F (unbind i) r h = closed-call (unbind i) S tt r h
  next (gripped w) e F (grip roles) r h = closed-call (grip roles) S tt r h
  next (gripped w) e F (pull wishes) r h = pulled_after w F (ap without_proposal e) wishes r h
  next (gripped w) e F keep r h = closed-call keep S tt r h
  next (gripped w) e F drop_grip r h = (drop_stands r h, tt)
  next (proposing w d) e F (bind cs q) r h = closed-call (bind cs q) S tt r h
  next (proposing w d) e F (unbind i) r h = closed-call (unbind i) S tt r h
  next (proposing w d) e F (grip roles) r h = closed-call (grip roles) S tt r h
  next (proposing w d) e F (pull wishes) r h = pulled_after w F.0 (ap without_proposal e) wishes r h
  next (proposing w d) e F keep r h = (keep_stands d F.1 w F.0 r h, tt)
  next (proposing w d) e F drop_grip r h = (drop_stands r h, tt)
