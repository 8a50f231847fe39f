-- What a grip on a desk comes to.
use Rattle.std.proofs.Common.{◌≡◌, ℕ, ◌≤◌, List, map, length, take, replicate, Ok, Err, vec_items, Result, sym, ap, ◌∙◌, subst, arith}
use Rattle.std.specs.List.Sorted.{IsPermutation}
use Rattle.std.proofs.lemmas.List.{length-take}
use Rattle.std.proofs.lemmas.List.Sorted.{length_permutation}
use Rattle.records.specs.declared.refusal.Refusal.{Refusal}
use Rattle.records.specs.declared.relation.Relation.{Relation}
use Rattle.records.specs.declared.role.Role.{Role}
use Rattle.records.specs.Outcomes.{image}
use Rattle.rules.specs.Values.{Coords}
use Rattle.rules.specs.Sheets as rules
use Rattle.rules.specs.Calls.{grip_answer, marks_after, spare_numbers, Listed}
use Rattle.rules.specs.Runs as runs
use Rattle.grips.specs.Shown.{handing_back}
use Rattle.calls.specs.Shown.{Answer, reply_of}
use Rattle.steps.specs.declared.state.State.{State}
use Rattle.steps.specs.declared.lists.Lists.{Lists}
use Rattle.steps.specs.Steps.{in_use, Means, Stepped}
use Rattle.steps.proofs.Steps.{Handed, with_sheet, accepted, refused, by_length, holding}

-- the numbers that were written stand in the list
pub listed_within : (numbers : List ℕ) (k : ℕ) (before after : List ℕ) → Listed numbers k before after → k ≤ length after
listed_within numbers k before after L =
    let a = length_permutation numbers (take k after) L.these in
    let b = length-take k after in
    omega (arith, L.many)

-- a grip was lent the desk's values, relations, constants and spare list
module _ {K : Type 0} (f : K → Coords) (size : ℕ) (before after : Lists K) (s : rules.Sheet) (roles : List Role)
    (values : List K) (relations : List Relation) (constants : List K) (spare : List ℕ)
    (lent-values : values ≡ vec_items before.values) (lent-relations : relations ≡ vec_items before.relations) (lent-constants : constants ≡ vec_items before.constants) (lent-spare : spare ≡ vec_items before.spare)
    (same-values : after.values ≡ before.values) (same-constants : after.constants ≡ before.constants) (same-proposal : after.proposal ≡ before.proposal) (same-working : after.working ≡ before.working)
    (same-places : length (vec_items after.spare) ≡ length (vec_items before.spare)) where
  abbrev u : runs.Use
  u = in_use f before s runs.free

  abbrev answer : Result rules.Workings Refusal
  answer = grip_answer size s (map f values) relations (map f constants) roles spare

  abbrev by_rule : Result rules.Workings Refusal
  by_rule = grip_answer size s u.values u.relations u.constants roles (replicate u.places 0)

  same_answer : answer ≡ by_rule
  same_answer = (λ i. grip_answer size s (map f (lent-values i)) (lent-relations i) (map f (lent-constants i)) roles (lent-spare i)) ∙ by_length size s u.values u.relations u.constants roles (vec_items before.spare)

  -- the lists after the call
  lists_are : (t : rules.Sheet) (phase : runs.Phase) (rs : List Relation) → vec_items after.relations ≡ rs
      → in_use f after t phase ≡ record { sheet = t; values = u.values; relations = rs; constants = u.constants; proposal = u.proposal; working = u.working; places = u.places; phase = phase }
  lists_are t phase rs e =
      holding f after t phase (ap (λ v. map f (vec_items v)) same-values) e (ap (λ v. map f (vec_items v)) same-constants) (ap (λ v. map f (vec_items v)) same-proposal) (ap (λ v. map f (vec_items v)) same-working) same-places

  module _ (marked : vec_items after.relations ≡ marks_after answer s relations (map f constants)) where
    marks_are : (a : Result rules.Workings Refusal) → answer ≡ a → vec_items after.relations ≡ marks_after a s u.relations u.constants
    marks_are a e = marked ∙ (λ i. marks_after (e i) s (lent-relations i) (map f (lent-constants i)))

    pub gripped-step : (t : rules.Sheet) (w : rules.Workings) (k : ℕ) (list : List ℕ) (r : State × Answer K)
        → ◌≡◌ {A = Handed rules.Workings} (Ok (t, w)) (handing_back s (image (with_sheet s) answer)) → Listed (spare_numbers w s relations (map f constants)) k spare list
        → Means f t (runs.gripped w) (Ok (runs.spares (take k list))) r → Stepped f (runs.grips size u roles) after r
    gripped-step t w k list r e L M =
        let a = accepted s t w answer e in
        let is : by_rule ≡ Ok w = sym same_answer ∙ a.1 in
        record {
          then = M.state after ∙ lists_are t (runs.gripped w) (marks_after (Ok w) s u.relations u.constants) (marks_are (Ok w) a.1)
              ∙ ap (λ (x : rules.Sheet). record { sheet = x; values = u.values; relations = marks_after (Ok w) s u.relations u.constants; constants = u.constants; proposal = u.proposal; working = u.working; places = u.places; phase = runs.gripped w }) a.0
              ∙ ap (λ (x : Result rules.Workings Refusal). (runs.held_by u x).then) (sym is);
          reply = subst (λ (x : Result rules.Workings Refusal). runs.Answers (runs.held_by u x).reply (reply_of f r.1)) (sym is)
              (take k list, M.answer, subst (λ (ns : List ℕ). IsPermutation ns (take k list)) (λ i. spare_numbers w s (lent-relations i) (map f (lent-constants i))) L.these);
        }

    pub refused_step : (t : rules.Sheet) (k : Refusal) (r : State × Answer K) → ◌≡◌ {A = Handed rules.Workings} (Err (t, k)) (handing_back s (image (with_sheet s) answer))
        → Means f t runs.free (Err k) r → Stepped f (runs.grips size u roles) after r
    refused_step t k r e M =
        let a = refused s t k answer e in
        let is : by_rule ≡ Err k = sym same_answer ∙ a.1 in
        record {
          then = M.state after ∙ lists_are t runs.free u.relations (marks_are (Err k) a.1) ∙ ap (λ (x : rules.Sheet). in_use f before x runs.free) a.0
              ∙ ap (λ (x : Result rules.Workings Refusal). (runs.held_by u x).then) (sym is);
          reply = subst (λ (x : Result rules.Workings Refusal). runs.Answers (runs.held_by u x).reply (reply_of f r.1)) (sym is) M.answer;
        }
