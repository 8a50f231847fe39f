-- One pull on a sheet in use: what stands after it, and that its reply is lawful.
use Rattle.std.proofs.Common.{◌≡◌, ℕ, ◌<◌, Bool, true, false, cond, ◌≢◌, ◌↔◌, ◌⊎◌, List, [], get_or, take, pos, ◌<ℤ◌, Ok, Err, Result, sym, refl, ap, ◌∙◌, subst, ⊎_elim}
use Rattle.std.proofs.lemmas.List.{get_or-take}
use Rattle.whole.specs.Lists.{coord}
use Rattle.linear.proofs.Outcomes.{not_accepted}
use Rattle.records.specs.declared.refusal.Refusal.{Refusal}
use Rattle.records.specs.declared.refusal.Refusal.TheVariants.{Unfit, WishTooFar, GapTooLarge, Impossible}
use Rattle.rules.specs.Values.{Coords, written}
use Rattle.rules.specs.Sheets.{Workings}
use Rattle.rules.specs.Gripping.{counted, shares}
use Rattle.rules.specs.Pulling.{Placing, proposed}
use Rattle.rules.specs.Calls as Calls
use Rattle.rules.specs.Calls.{pull_by, unfit_pull, pulling}
use Rattle.rules.specs.Runs.{Phase, gripped, proposing, Use, pull, placing, Reply, told, pulled_to}
use Rattle.rules.proofs.Bonds.{take-written_all}
use Rattle.law.specs.Placings.{Shaped, AllHold}
use Rattle.law.specs.Histories.{Stage, with_grip, with_proposal, Told, without_proposal, tell}
use Rattle.law.specs.Law.{MeetsAll, RefusedRightly, ProposesNearest}
use Rattle.law.specs.Standing.{GrippedWell, PhaseStands, stage_of, Standing}
use Rattle.law.proofs.Refusals.{fine, same_refusal}
use Rattle.law.proofs.Solved.{Accepted, judged, accepted-answer}

-- the sheet's coordinates are the kept ones
pub kept-nums : (size n : ℕ) (t : Told) (u : Use) → Standing size n t u → (s : ℕ) → s < n → (c : ℕ) → c < size → coord u.values s c ≡ coord t.kept.nums s c
kept-nums size n t u S s l c b = ap (λ (x : Coords). get_or x c (pos 0)) (sym (get_or-take n u.values s [] l)) ∙ ap (λ (xs : List Coords). coord xs s c) S.values_are

-- the same sheet, values and relations in another phase, with other proposals
pub rephased : (size n : ℕ) (t : Told) (u : Use) → Standing size n t u → (p : Placing) (stage : Stage) (proposal working : List Coords) (phase : Phase) → stage_of phase ≡ stage
    → PhaseStands size n (record t { proposal = p; stage = stage }) proposal phase
    → Standing size n (record t { proposal = p; stage = stage }) (record u { proposal = proposal; working = working; phase = phase })
rephased size n t u S p stage proposal working phase e h = record {
  count_is = S.count_is;
  few = S.few;
  bound_is = S.bound_is;
  over_is = S.over_is;
  values_are = S.values_are;
  shaped = S.shaped;
  holds = S.holds;
  stage_is = e;
  phase_is = h;
}

module _ (size n : ℕ) (t : Told) (u : Use) (S : Standing size n t u) (w : Workings) (G : GrippedWell n t.bound t.roles w) (wishes : List Coords) where
  pub d>0 : pos 0 <ℤ u.sheet.d
  d>0 = subst (λ x. pos 0 <ℤ x) (sym S.over_is) S.shaped.above

  -- the answer where the lists and the workings fit
  abbrev pub answer : Result Placing Refusal
  answer = proposed size n t.roles (shares n t.roles) (counted n t.roles t.bound) w.table u.sheet.d u.values wishes

  abbrev pub AcceptedHere : Placing → Type 0
  AcceptedHere q = Accepted size n t.roles t.bound w.table u.sheet.d u.values wishes t.kept G.weights G.means S.over_is (kept-nums size n t u S) d>0 S.holds q

  pub is_accepted : (q : Placing) → answer ≡ Ok q → AcceptedHere q
  is_accepted = accepted-answer size n t.roles t.bound w.table u.sheet.d u.values wishes t.kept G.weights G.means S.over_is (kept-nums size n t u S) d>0 S.holds

  judges : answer ≢ Err WishTooFar → answer ≢ Err GapTooLarge
      → ((answer ≡ Err Impossible) × ((z : Placing) → ¬ (MeetsAll size n t wishes z))) ⊎ ((answer ≢ Err Impossible) × ((z : Placing) × MeetsAll size n t wishes z))
  judges = judged size n t.roles t.bound w.table u.sheet.d u.values wishes t.kept G.weights G.means S.over_is (kept-nums size n t u S) d>0 S.holds

  -- what the pull gives, by whether its lists fit and by that answer
  abbrev pub outcome : Bool → Result Placing Refusal → Calls.Pulled
  outcome b a = cond b (Err Unfit, u.proposal, u.working) (pull_by size n u.proposal u.working a)

  abbrev reply : ℕ → Calls.Pulled → Reply
  reply N P = told N P.1 P.0

  -- ---- what came back
  -- a pull whose lists fit is refused as that answer is
  refusal_is : (a : Result Placing Refusal) (k : Refusal) → (reply n (outcome false a) ≡ Err k) ↔ (a ≡ Err k)
  refusal_is (Ok q) k = ((λ h. absurd (fine _ h)), λ h. absurd (fine q h))
  refusal_is (Err e) k = (same_refusal e k, same_refusal e k)

  rightly : RefusedRightly size n t wishes (reply n (outcome false answer))
  rightly is_open d1 d11 d12 = ⊎_elim
      (λ h. record { impossible = ((λ e. h.1), λ none. (refusal_is answer Impossible).1 h.0); possible = λ d. absurd (d ((refusal_is answer Impossible).1 h.0)) })
      (λ h. record { impossible = ((λ e. absurd (h.0 ((refusal_is answer Impossible).0 e))), λ none. absurd (none h.1.0 h.1.1)); possible = λ d. h.1 })
      (judges (λ e. d11 ((refusal_is answer WishTooFar).1 e)) (λ e. d12 ((refusal_is answer GapTooLarge).1 e)))

  -- the list holds the placing that was accepted
  listed : (q : Placing) → AcceptedHere q → ◌≡◌ {A = Placing} (record { over = q.over; nums = take n (written n q.nums u.proposal) }) q
  listed q A = ap (λ (x : List Coords). record { over = q.over; nums = x }) (take-written_all n q.nums u.proposal A.meets_all.shaped.values)

  nearest : (a : Result Placing Refusal) → answer ≡ a → ProposesNearest size n t wishes (reply n (outcome false a))
  nearest (Err k) e g h = absurd (not_accepted k g h)
  nearest (Ok q) e g h =
      let A = is_accepted q e in
      let given : g ≡ placing (record { over = q.over; nums = take n (written n q.nums u.proposal) }) = cc in
      (q, given ∙ ap placing (listed q A), A.meets_all, A.is_nearest)

  abbrev Lawfully : ℕ → Calls.Pulled → Type 0
  Lawfully N P = RefusedRightly size n t wishes (reply N P) × ProposesNearest size n t wishes (reply N P)

  lawful_by : (b : Bool) → Lawfully n (outcome b answer)
  lawful_by true = ((λ is_open d1 d11 d12. absurd (d1 refl)), λ g h. absurd (not_accepted Unfit g h))
  lawful_by false = (rightly, nearest answer refl)

  -- ---- what stands after it
  abbrev Stands : ℕ → Calls.Pulled → Type 0
  Stands N P = Standing size n (tell n t (pull wishes) (reply N P)) (pulled_to u w P).then

  module _ (held : with_grip ≡ without_proposal t.stage) where
    -- a refusal leaves the grip without a proposal
    refused_stands : (k : Refusal) (proposal working : List Coords) → Stands n (Err k, proposal, working)
    refused_stands k proposal working = rephased size n t u S t.proposal (without_proposal t.stage) proposal working (gripped w) held G

    accepted_stands : (q : Placing) → AcceptedHere q → Stands n (outcome false (Ok q))
    accepted_stands q A =
        let back = sym (listed q A) in
        let P = outcome false (Ok q) in
        rephased size n t u S (record { over = q.over; nums = take n (written n q.nums u.proposal) }) with_proposal P.1 P.2 (proposing w q.over) refl (
          G,
          record {
            over_is = refl;
            nums_are = refl;
            shaped = subst (λ (p : Placing). Shaped size n p) back A.meets_all.shaped;
            holds = subst (λ (p : Placing). AllHold size n t.bound p) back A.meets_all.relations;
          },
        )

    stands_by : (b : Bool) → Stands n (outcome b answer)
    stands_by true = refused_stands Unfit u.proposal u.working
    stands_by false = settled answer refl
      where
        settled : (a : Result Placing Refusal) → answer ≡ a → Stands n (outcome false a)
        settled (Err k) e = refused_stands k (outcome false (Err k)).1 (outcome false (Err k)).2
        settled (Ok q) e = accepted_stands q (is_accepted q e)

  -- the pull is worked out by the sheet's count, relations and workings, which are those told
  pub pulled_is : pulling size u.sheet u.values u.relations u.constants w wishes u.proposal u.working
      ≡ outcome (unfit_pull size u.sheet u.values u.relations u.constants w wishes u.proposal u.working) answer
  pulled_is = λ i. cond (unfit_pull size u.sheet u.values u.relations u.constants w wishes u.proposal u.working) (Err Unfit, u.proposal, u.working)
      (pull_by size (S.count_is i) u.proposal u.working
      (proposed size (S.count_is i) (G.roles_are i) (G.shares_are i) (counted (S.count_is i) (G.roles_are i) (S.bound_is i)) w.table u.sheet.d u.values wishes))

  -- what holds of that outcome by the count that was told holds of the pull
  of_outcome : (P : ℕ → Calls.Pulled → Type 0) → ((b : Bool) → P n (outcome b answer)) → P u.sheet.count (pulling size u.sheet u.values u.relations u.constants w wishes u.proposal u.working)
  of_outcome P h = subst (λ (x : Calls.Pulled). P u.sheet.count x) (sym pulled_is)
      (subst (λ (N : ℕ). P N (outcome (unfit_pull size u.sheet u.values u.relations u.constants w wishes u.proposal u.working) answer)) (sym S.count_is)
      (h (unfit_pull size u.sheet u.values u.relations u.constants w wishes u.proposal u.working)))

  pub pull_lawful : Lawfully u.sheet.count (pulling size u.sheet u.values u.relations u.constants w wishes u.proposal u.working)
  pull_lawful = of_outcome Lawfully lawful_by

  pub pull_stands : with_grip ≡ without_proposal t.stage → Stands u.sheet.count (pulling size u.sheet u.values u.relations u.constants w wishes u.proposal u.working)
  pull_stands held = of_outcome Stands (stands_by held)
