-- What a pull on a desk comes to.
use Rattle.calls.specs.Shown.{Answer}
use Rattle.std.proofs.Common.{◌≡◌, ℕ, ◌≤◌, List, map, length, take, ℤ, Ok, Err, vec_items, Result, sym, refl, ap, ◌∙◌, subst}
use Rattle.std.proofs.lemmas.Bool.{cond_both}
use Rattle.linear.proofs.Outcomes.{not_accepted}
use Rattle.records.specs.declared.refusal.Refusal.{Refusal}
use Rattle.records.specs.declared.refusal.Refusal.TheVariants.{Unfit}
use Rattle.records.specs.declared.relation.Relation.{Relation}
use Rattle.records.specs.Outcomes.{image}
use Rattle.rules.proofs.Accepted.{pullable}
use Rattle.rules.specs.Values.{Coords}
use Rattle.rules.specs.Sheets as rules
use Rattle.rules.specs.Calls as Calls
use Rattle.rules.specs.Calls.{pull_by, unfit_pull, pulling}
use Rattle.rules.specs.Runs as runs
use Rattle.grips.specs.Shown.{handing_back}
use Rattle.steps.specs.declared.state.State.{State}
use Rattle.steps.specs.declared.lists.Lists.{Lists}
use Rattle.steps.specs.Steps.{in_use, Means, Stepped}
use Rattle.steps.proofs.Steps.{Handed, with_sheet, accepted, refused, holding}

-- an accepted pull had room for its proposal
module _ (size : ℕ) (s : rules.Sheet) (vs : List Coords) (rs : List Relation) (qs : List Coords) (w : rules.Workings) (wishes proposal working : List Coords) (d : ℤ) where
  pub proposal_long : (pulling size s vs rs qs w wishes proposal working).0 ≡ Ok d → s.count ≤ length proposal
  proposal_long = cond_both (unfit_pull size s vs rs qs w wishes proposal working) _ _ (λ (P : Calls.Pulled). P.0 ≡ Ok d → s.count ≤ length proposal)
      (λ e h. absurd (not_accepted Unfit d h))
      (λ e h. (pullable size s vs rs qs w wishes proposal working e).0)

-- a pull was lent the desk's lists
module _ {K : Type 0} (f : K → Coords) (size : ℕ) (before after : Lists K) (s : rules.Sheet) (phase : runs.Phase) (w : rules.Workings) (wishes : List Coords)
    (values : List K) (relations : List Relation) (constants : List K) (workings : rules.Workings) (proposal working : List K)
    (lent-values : values ≡ vec_items before.values) (lent-relations : relations ≡ vec_items before.relations) (lent-constants : constants ≡ vec_items before.constants)
    (lent-workings : workings ≡ w) (lent-proposal : proposal ≡ vec_items before.proposal) (lent-working : working ≡ vec_items before.working)
    (same-values : after.values ≡ before.values) (same-relations : after.relations ≡ before.relations) (same-constants : after.constants ≡ before.constants) (same-spare : after.spare ≡ before.spare) where
  abbrev u : runs.Use
  u = in_use f before s phase

  abbrev lent : Calls.Pulled
  lent = pulling size s (map f values) relations (map f constants) workings wishes (map f proposal) (map f working)

  abbrev by_rule : Calls.Pulled
  by_rule = pulling size s u.values u.relations u.constants w wishes u.proposal u.working

  same-pull : lent ≡ by_rule
  same-pull = λ i. pulling size s (map f (lent-values i)) (lent-relations i) (map f (lent-constants i)) (lent-workings i) wishes (map f (lent-proposal i)) (map f (lent-working i))

  pub room_for : (t : rules.Sheet) (d : ℤ) → ◌≡◌ {A = Handed ℤ} (Ok (t, d)) (handing_back s (image (with_sheet s) lent.0)) → t.count ≤ length (map f proposal)
  room_for t d e =
      let a = accepted s t d lent.0 e in
      let h = proposal_long size s (map f values) relations (map f constants) workings wishes (map f proposal) (map f working) d a.1 in
      subst (λ (x : rules.Sheet). x.count ≤ length (map f proposal)) (sym a.0) h

  module _ (proposal_is : map f (vec_items after.proposal) ≡ lent.1) (working_is : map f (vec_items after.working) ≡ lent.2) where
    -- the lists after the call
    lists_are : (t : rules.Sheet) (p : runs.Phase)
        → in_use f after t p ≡ record { sheet = t; values = u.values; relations = u.relations; constants = u.constants; proposal = lent.1; working = lent.2; places = u.places; phase = p }
    lists_are t p = holding f after t p (ap (λ v. map f (vec_items v)) same-values) (ap vec_items same-relations) (ap (λ v. map f (vec_items v)) same-constants) proposal_is working_is (ap (λ v. length (vec_items v)) same-spare)

    -- the state and the reply by what the pull gave
    stepped : (t : rules.Sheet) (a : Result ℤ Refusal) (r : State × Answer K) → t ≡ s → lent.0 ≡ a → Means f t (runs.phase_after w a) (runs.told t.count lent.1 a) r
        → runs.Answers (runs.told s.count lent.1 a) (runs.told s.count lent.1 a) → Stepped f (runs.pulled_to u w lent) after r
    stepped t a r same e M own = record {
      then = M.state after ∙ lists_are t (runs.phase_after w a)
          ∙ (λ i. record { sheet = same i; values = u.values; relations = u.relations; constants = u.constants; proposal = lent.1; working = lent.2; places = u.places; phase = runs.phase_after w (sym e i) });
      reply = subst (λ (x : runs.Reply). runs.Answers (runs.told s.count lent.1 lent.0) x) (sym (M.answer ∙ ap (λ (x : rules.Sheet). runs.told x.count lent.1 a) same))
          (subst (λ (x : Result ℤ Refusal). runs.Answers (runs.told s.count lent.1 x) (runs.told s.count lent.1 a)) (sym e) own);
    }

    pub pulled_step : (t : rules.Sheet) (d : ℤ) (r : State × Answer K) → ◌≡◌ {A = Handed ℤ} (Ok (t, d)) (handing_back s (image (with_sheet s) lent.0))
        → Means f t (runs.proposing w d) (Ok (runs.placing (record { over = d; nums = take t.count lent.1 }))) r → Stepped f (runs.pulls size u w wishes) after r
    pulled_step t d r e M =
        let a = accepted s t d lent.0 e in
        subst (λ (P : Calls.Pulled). Stepped f (runs.pulled_to u w P) after r) same-pull (stepped t (Ok d) r a.0 a.1 M refl)

    pub unpulled_step : (t : rules.Sheet) (k : Refusal) (r : State × Answer K) → ◌≡◌ {A = Handed ℤ} (Err (t, k)) (handing_back s (image (with_sheet s) lent.0))
        → Means f t (runs.gripped w) (Err k) r → Stepped f (runs.pulls size u w wishes) after r
    unpulled_step t k r e M =
        let a = refused s t k lent.0 e in
        subst (λ (P : Calls.Pulled). Stepped f (runs.pulled_to u w P) after r) same-pull (stepped t (Err k) r a.0 a.1 M refl)
