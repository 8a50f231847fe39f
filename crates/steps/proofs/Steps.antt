-- What a call on a desk comes to, from what the sheet's call gave.
use Rattle.std.proofs.Common.{◌≡◌, ℕ, ◌||◌, ltb, List, map, length, take, replicate, IfOk, Ok, Err, vec_items, vec_len, Result, sym, refl, ap, ◌∙◌, subst, arith}
use Rattle.std.specs.declared.alloc.AllocError.{AllocError}
use Rattle.std.specs.Vec.{with_items}
use Rattle.std.proofs.lemmas.List.{length-replicate, with_items_is}
use Rattle.records.specs.declared.refusal.Refusal.{Refusal}
use Rattle.records.specs.declared.refusal.Refusal.TheVariants.{Unfit}
use Rattle.records.specs.declared.relation.Relation.{Relation}
use Rattle.records.specs.declared.role.Role.{Role}
use Rattle.records.specs.Outcomes.{guard, image}
use Rattle.rules.specs.Limits.{most_counted}
use Rattle.rules.specs.Values.{Coords}
use Rattle.rules.specs.Sheets as rules
use Rattle.sheets.specs.declared.record.Sheet.{Sheet}
use Rattle.sheets.specs.Shown.{numbers}
use Rattle.rules.specs.Calls.{Bound, grip_on, grip_answer}
use Rattle.rules.specs.Runs as runs
use Rattle.grips.specs.Shown.{handing_back}
use Rattle.calls.specs.Shown.{Answer, reply_of}
use Rattle.steps.specs.declared.state.State.{State}
use Rattle.steps.specs.declared.state.State.TheVariants.{Free, Gripped, Proposed}
use Rattle.steps.specs.declared.lists.Lists.{Lists}
use Rattle.steps.specs.Steps.{in_use, use_in, Means, Stepped, SteppedIn}

-- ---- replies
-- a reply that is none of a grip's answers itself
answers-done : (r : Result (Unit {0}) Refusal) (a : runs.Reply) → a ≡ runs.reply_to r → runs.Answers (runs.reply_to r) a
answers-done (Ok x) a e = e
answers-done (Err x) a e = e

-- ---- lists
-- lists that hold these values
module _ {K : Type 0} (f : K → Coords) (l : Lists K) (sheet : rules.Sheet) (phase : runs.Phase) {vs : List Coords} {rs : List Relation} {qs ps ws : List Coords} {k : ℕ}
    (values_are : map f (vec_items l.values) ≡ vs) (relations-are : vec_items l.relations ≡ rs) (constants-are : map f (vec_items l.constants) ≡ qs)
    (proposal_is : map f (vec_items l.proposal) ≡ ps) (working_is : map f (vec_items l.working) ≡ ws) (places-are : length (vec_items l.spare) ≡ k) where
  pub holding : in_use f l sheet phase ≡ record { sheet = sheet; values = vs; relations = rs; constants = qs; proposal = ps; working = ws; places = k; phase = phase }
  holding = λ d. record {
    sheet = sheet;
    values = values_are d;
    relations = relations-are d;
    constants = constants-are d;
    proposal = proposal_is d;
    working = working_is d;
    places = places-are d;
    phase = phase;
  }

-- ---- binding and unbinding
-- the sheet was bound or unbound with its relations and constants
pub rebound_step : {K : Type 0} (f : K → Coords) (lists : Lists K) (s : rules.Sheet) (now : Sheet) (rs : List Relation) (qs : List K) (given : Result (Unit {0}) Refusal) (answer : Answer K) (b : Bound)
    → length rs ≡ vec_len lists.relations → length qs ≡ vec_len lists.constants → (given, numbers now, rs, map f qs) ≡ b → reply_of f answer ≡ runs.reply_to given
    → Stepped f (runs.rebound (in_use f lists s runs.free) b)
    (record { values = lists.values; relations = with_items lists.relations rs; constants = with_items lists.constants qs; proposal = lists.proposal; working = lists.working; spare = lists.spare }) (Free now, answer)
rebound_step f lists s now rs qs given answer b lr lq e h = record {
  then =
      holding f (record { values = lists.values; relations = with_items lists.relations rs; constants = with_items lists.constants qs; proposal = lists.proposal; working = lists.working; spare = lists.spare })
      (numbers now) runs.free refl (with_items_is lists.relations rs lr) (ap (map f) (with_items_is lists.constants qs lq)) refl refl refl
      ∙ ap (λ (b : Bound). (runs.rebound (in_use f lists s runs.free) b).then) e;
  reply = subst (λ (b : Bound). runs.Answers (runs.reply_to b.0) (reply_of f answer)) e (answers-done given (reply_of f answer) h);
}

-- ---- gripping
-- of the spare list only its count of places matters
module _ (size : ℕ) (s : rules.Sheet) (vs : List Coords) (rs : List Relation) (qs : List Coords) (roles : List Role) where
  abbrev by-places : ℕ → Result rules.Workings Refusal
  by-places k = guard (ltb (length roles) s.count || ltb k most_counted || rules.unfit size s vs rs qs) Unfit (grip_on s.count (take s.count roles) (rules.bonds s rs qs))

  pub by_length : (spare : List ℕ) → grip_answer size s vs rs qs roles spare ≡ grip_answer size s vs rs qs roles (replicate (length spare) 0)
  by_length spare = ap by-places (sym (length-replicate (length spare) 0))

-- what was handed back
abbrev pub Handed : Type 0 → Type 0
Handed A = Result (rules.Sheet × A) (rules.Sheet × Refusal)

abbrev pub with_sheet : {A : Type 0} → rules.Sheet → A → rules.Sheet × A
with_sheet s a = (s, a)

module _ {A : Type 0} (s t : rules.Sheet) where
  -- an answer from what was handed back with the sheet
  pub accepted : (a : A) (r : Result A Refusal) → ◌≡◌ {A = Handed A} (Ok (t, a)) (handing_back s (image (with_sheet s) r)) → (t ≡ s) × (r ≡ Ok a)
  accepted a (Ok x) e = let p : (t, a) ≡ with_sheet s x = cc in (ap (λ (h : rules.Sheet × A). h.0) p, sym (ap (λ (h : rules.Sheet × A). Ok h.1) p))
  accepted a (Err k) e = let z : ◌≡◌ {A = ℕ} 0 1 = cc in absurd (omega arith)

  pub refused : (k : Refusal) (r : Result A Refusal) → ◌≡◌ {A = Handed A} (Err (t, k)) (handing_back s (image (with_sheet s) r)) → (t ≡ s) × (r ≡ Err k)
  refused k (Ok x) e = let z : ◌≡◌ {A = ℕ} 0 1 = cc in absurd (omega arith)
  refused k (Err x) e = let p : (t, k) ≡ (s, x) = cc in (ap (λ (h : rules.Sheet × Refusal). h.0) p, sym (ap (λ (h : rules.Sheet × Refusal). Err h.1) p))

-- ---- a desk
-- a desk's values lie in its list, whatever its state
pub values_in : {K : Type 0} (f : K → Coords) (l : Lists K) (state : State) → (use_in f l state).values ≡ map f (vec_items l.values)
values_in f l (Free s) = refl
values_in f l (Gripped h) = refl
values_in f l (Proposed o) = refl

-- a call is made as its step was, where there was memory for it
pub called : {K : Type 0} (f : K → Coords) (o p : runs.Outcome) (l m : Lists K) (given r : Result (State × Answer K) AllocError) (state : State) (answer : Answer K)
    → given ≡ Ok (state, answer) → given ≡ r → l ≡ m → o ≡ p → SteppedIn f o m r → (use_in f l state ≡ p.then) × runs.Answers p.reply (reply_of f answer)
called f o p l m given r state answer was is same alike h =
    let S = subst (λ x. SteppedIn f o m x) (sym is ∙ was) h in
    (ap (λ x. use_in f x state) same ∙ S.then ∙ ap (λ (x : runs.Outcome). x.then) alike, subst (λ (x : runs.Outcome). runs.Answers x.reply (reply_of f answer)) alike S.reply)

-- ---- memory
-- a step that was made where there was memory for it
pub stepped_in : {K : Type 0} (f : K → Coords) (o : runs.Outcome) (l : Lists K) (sheet : rules.Sheet) (phase : runs.Phase) (reply : runs.Reply) → ((x : State × Answer K) → Means f sheet phase reply x → Stepped f o l x)
    → (r : Result (State × Answer K) AllocError) → IfOk r (Means f sheet phase reply) → SteppedIn f o l r
stepped_in f o l sheet phase reply step (Ok x) m = step x m
stepped_in f o l sheet phase reply step (Err e) m = tt
