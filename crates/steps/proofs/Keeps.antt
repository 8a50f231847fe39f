-- What a keep on a desk comes to.
use Rattle.calls.specs.Shown.{Answer}
use Rattle.std.proofs.Common.{◌≡◌, ℕ, ◌||◌, List, map, length, ℤ, Ok, Err, vec_items, Result, sym, refl, ap, ◌∙◌, subst, arith}
use Rattle.std.proofs.lemmas.Bool.{cond_both}
use Rattle.linear.proofs.Outcomes.{not_accepted}
use Rattle.records.specs.declared.refusal.Refusal.{Refusal}
use Rattle.records.specs.declared.relation.Relation.{Relation}
use Rattle.rules.specs.Values.{Coords}
use Rattle.rules.specs.Sheets as rules
use Rattle.rules.specs.Calls.{keeping}
use Rattle.rules.specs.Runs as runs
use Rattle.grips.specs.Shown.{handing_back}
use Rattle.steps.specs.declared.state.State.{State}
use Rattle.steps.specs.declared.lists.Lists.{Lists}
use Rattle.steps.specs.Steps.{in_use, Means, Stepped}
use Rattle.steps.proofs.Steps.{holding}

abbrev Kept : Type 0
Kept = Result rules.Sheet (rules.Sheet × Refusal)

accepted : (s t : rules.Sheet) (r : Result rules.Sheet Refusal) → ◌≡◌ {A = Kept} (Ok t) (handing_back s r) → r ≡ Ok t
accepted s t (Ok x) e = let z : x ≡ t = cc in ap Ok z
accepted s t (Err k) e = let z : ◌≡◌ {A = ℕ} 0 1 = cc in absurd (omega arith)

refused : (s t : rules.Sheet) (k : Refusal) (r : Result rules.Sheet Refusal) → ◌≡◌ {A = Kept} (Err (t, k)) (handing_back s r) → (t ≡ s) × (r ≡ Err k)
refused s t k (Ok x) e = let z : ◌≡◌ {A = ℕ} 0 1 = cc in absurd (omega arith)
refused s t k (Err x) e = let p : (t, k) ≡ (s, x) = cc in (ap (λ (h : rules.Sheet × Refusal). h.0) p, sym (ap (λ (h : rules.Sheet × Refusal). Err h.1) p))

-- a refused keep leaves the values
unchanged : (size : ℕ) (s : rules.Sheet) (vs : List Coords) (rs : List Relation) (qs ps : List Coords) (d : ℤ) (k : Refusal) → (keeping size s vs rs qs ps d).0 ≡ Err k → (keeping size s vs rs qs ps d).1 ≡ vs
unchanged size s vs rs qs ps d k = cond_both (rules.unfit size s vs rs qs || rules.unfit_values size s.count d ps) _ _ (λ (o : Result rules.Sheet Refusal × List Coords). o.0 ≡ Err k → o.1 ≡ vs)
    (λ q e. refl)
    (λ q e. absurd (not_accepted k (record { count = s.count; bound = s.bound; d = d }) (sym e)))

-- a keep was lent the desk's lists
module _ {K : Type 0} (f : K → Coords) (size : ℕ) (before after : Lists K) (s : rules.Sheet) (phase : runs.Phase) (d : ℤ)
    (values : List K) (relations : List Relation) (constants proposal : List K)
    (lent-values : values ≡ vec_items before.values) (lent-relations : relations ≡ vec_items before.relations) (lent-constants : constants ≡ vec_items before.constants) (lent-proposal : proposal ≡ vec_items before.proposal)
    (same-relations : after.relations ≡ before.relations) (same-constants : after.constants ≡ before.constants) (same-proposal : after.proposal ≡ before.proposal) (same-working : after.working ≡ before.working) (same-spare : after.spare ≡ before.spare) where
  abbrev u : runs.Use
  u = in_use f before s phase

  abbrev Outcome : Type 0
  Outcome = Result rules.Sheet Refusal × List Coords

  abbrev lent : Outcome
  lent = keeping size s (map f values) relations (map f constants) (map f proposal) d

  abbrev by_rule : Outcome
  by_rule = keeping size s u.values u.relations u.constants u.proposal d

  same-keep : lent ≡ by_rule
  same-keep = λ i. keeping size s (map f (lent-values i)) (lent-relations i) (map f (lent-constants i)) (map f (lent-proposal i)) d

  -- the lists after the call
  lists_are : (t : rules.Sheet) (p : runs.Phase) (vs : List Coords) → map f (vec_items after.values) ≡ vs
      → in_use f after t p ≡ record { sheet = t; values = vs; relations = u.relations; constants = u.constants; proposal = u.proposal; working = u.working; places = u.places; phase = p }
  lists_are t p vs e = holding f after t p e (ap vec_items same-relations) (ap (λ v. map f (vec_items v)) same-constants) (ap (λ v. map f (vec_items v)) same-proposal) (ap (λ v. map f (vec_items v)) same-working) (ap (λ v. length (vec_items v)) same-spare)

  module _ (values_are : map f (vec_items after.values) ≡ lent.1) where
    pub kept_step : (t : rules.Sheet) (r : State × Answer K) → ◌≡◌ {A = Kept} (Ok t) (handing_back s lent.0) → Means f t runs.free (Ok runs.nothing) r → Stepped f (runs.keeps size u d) after r
    kept_step t r e M =
        let a = accepted s t lent.0 e in
        subst (λ (x : Outcome). Stepped f (runs.freed u x.0 x.1) after r) same-keep
        (subst (λ (x : Result rules.Sheet Refusal). Stepped f (runs.freed u x lent.1) after r) (sym a) (record { then = M.state after ∙ lists_are t runs.free lent.1 values_are; reply = M.answer }))

    pub unkept_step : (t : rules.Sheet) (k : Refusal) (r : State × Answer K) → ◌≡◌ {A = Kept} (Err (t, k)) (handing_back s lent.0) → Means f t phase (Err k) r → Stepped f (runs.keeps size u d) after r
    unkept_step t k r e M =
        let a = refused s t k lent.0 e in
        let left = values_are ∙ unchanged size s (map f values) relations (map f constants) (map f proposal) d k a.1 ∙ ap (map f) lent-values in
        subst (λ (x : Outcome). Stepped f (runs.freed u x.0 x.1) after r) same-keep
        (subst (λ (x : Result rules.Sheet Refusal). Stepped f (runs.freed u x lent.1) after r) (sym a.1)
        (record { then = M.state after ∙ lists_are t phase u.values left ∙ ap (λ (x : rules.Sheet). in_use f before x phase) a.0; reply = M.answer }))
