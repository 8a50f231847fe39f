-- Where the lists are long enough no call gives 1: they fit at the opening, and each call keeps them so.
use Rattle.std.proofs.Common.{◌≡◌, ℕ, ◌+◌, ◌-◌, ◌*◌, ◌<◌, ◌≤◌, Bool, false, not, ◌||◌, eqb, ltb, ◌≢◌, List, [], ◌∷◌, length, get_or, take, set, replicate, ℤ, pos, nat_abs, ◌<ℤ◌, Ok, Err, Result, sym, refl, ap, ◌∙◌, subst, ap₂, ⊎_elim, not-suc-le-zero, arith}
use mathlib.Core.Bool.{true≢false}
use lib.Signed.{lt_z}
use borrow.Author.Differences.{ints}
use Rattle.std.proofs.lemmas.List.{length-set, length-replicate, get_or-set_same, get_or-set_other}
use Rattle.std.proofs.lemmas.Bool.{cond-false, false_from_ne_true, or_parts, or_from, not_from_true, le-ltb, eq-eqb, cases_lt}
use Rattle.whole.specs.Lists.{tab}
use Rattle.whole.specs.Tests.{above}
use Rattle.whole.proofs.Lists.{tab-length}
use Rattle.whole.proofs.Tests.{any_false, none_any, any_ext}
use Rattle.records.specs.declared.refusal.Refusal.{Refusal}
use Rattle.records.specs.declared.refusal.Refusal.TheVariants.{Unfit, NotOpen}
use Rattle.records.specs.declared.relation.Relation.{Relation}
use Rattle.records.specs.declared.role.Role.{Role}
use Rattle.rules.specs.Limits.{most_parameters, most_relations, most_counted, working_places}
use Rattle.rules.specs.Values.{Coords, zeros, written}
use Rattle.rules.specs.Sheets.{Sheet, Bond, bond, bonds, relation_at, Workings, bad_denominator, bad_values, bad_coefs, bad_constant, bad_relation, unfit_values, unfit_relations, unfit}
use Rattle.rules.specs.Gripping.{counted, shares, marked, with_mark, mark_of}
use Rattle.rules.specs.Pulling.{Placing}
use Rattle.rules.specs.Calls as Calls
use Rattle.rules.specs.Calls.{opening, recorded, closed, bind_answer, bind_by, unbind_answer, unbind_by, grip_answer, unfit_pull}
use Rattle.rules.specs.Runs.{Phase, free, gripped, proposing, Use, Call, bind, unbind, grip, pull, keep, drop_grip, nothing, spares, placing, rebound, held_by, pulled_to, freed, in_turn, opened}
use Rattle.rules.specs.Runs as Runs
use Rattle.rules.proofs.Accepted.{on_opened, bindable, unbindable}
use Rattle.rules.proofs.Bonds.{zeros-length, none, get_or-written, length-written, closed_below, closed-above, closed-length, marked-at, bonds-marked}
use Rattle.rules.proofs.Fit.{fit_values}
use Rattle.law.specs.Histories.{Entry, Told, at_opening, tell}
use Rattle.law.specs.Law.{Made}
use Rattle.law.specs.Standing.{GrippedWell, PhaseStands, Standing}
use Rattle.law.specs.Plenty.{LongLists, LongCall, LongCalls, NeverUnfit, FitsAlways}
use Rattle.law.proofs.Divided.{coord-grid}
use Rattle.law.proofs.Facts.{accepted-grip}
use Rattle.law.proofs.Pulls.{answer, is_accepted, outcome, pulled_is}
use Rattle.law.proofs.Refusals.{fine, same_refusal, defined_too, bind_refusals, unbind_refusals, grip_refusals, pull_refusals}
use Rattle.law.proofs.Runs.{stands_opened, stands_on}

-- ---- what fits
abbrev GripFits : Use → Workings → Type 0
GripFits u w = (w.count ≡ u.sheet.count) × (w.m ≡ length (counted u.sheet.count w.roles (bonds u.sheet u.relations u.constants)))

abbrev PhaseFits : ℕ → Use → Phase → Type 0
PhaseFits size u free = Unit {0}
PhaseFits size u (gripped w) = GripFits u w
PhaseFits size u (proposing w e) = GripFits u w × (unfit_values size u.sheet.count e u.proposal ≡ false)

pub record Fitting (size n : ℕ) (u : Use) : Type 0 where
  pub lists : LongLists n u
  pub fits : unfit size u.sheet u.values u.relations u.constants ≡ false
  pub phase-fits : PhaseFits size u u.phase

each_relation : (size : ℕ) (s : Sheet) (rs : List Relation) (qs : List Coords) → unfit_relations size s rs qs ≡ false → (i : ℕ) → i < s.bound → bad_relation size s.count (relation_at rs i) (get_or qs i []) ≡ false
each_relation size s rs qs e = any_false s.bound _ (or_parts (ltb (length rs) most_relations || ltb (length qs) most_relations) _ e).1

fit_relations : (size : ℕ) (s : Sheet) (rs : List Relation) (qs : List Coords) → most_relations ≤ length rs → most_relations ≤ length qs
    → ((i : ℕ) → i < s.bound → bad_relation size s.count (relation_at rs i) (get_or qs i []) ≡ false) → unfit_relations size s rs qs ≡ false
fit_relations size s rs qs lr lq h = or_from (ltb (length rs) most_relations || ltb (length qs) most_relations) _
    (or_from (ltb (length rs) most_relations) _ (le-ltb _ _ lr) (le-ltb _ _ lq)) (none_any s.bound _ h)

fit_new_values : (size n : ℕ) (d : ℤ) (us : List Coords) → n ≤ length us → bad_denominator d ≡ false → bad_values size n d us ≡ false → unfit_values size n d us ≡ false
fit_new_values size n d us l a b = or_from (ltb (length us) n || bad_denominator d) _ (or_from (ltb (length us) n) _ (le-ltb _ _ l) a) b

-- values in the first places are judged alike
same-values : (size n : ℕ) (d : ℤ) (us ws : List Coords) → ((s : ℕ) → s < n → get_or us s [] ≡ get_or ws s []) → bad_values size n d us ≡ bad_values size n d ws
same-values size n d us ws h = any_ext n _ _ (λ s l. any_ext size _ _ (λ c b. ap (λ (x : Coords). above (47560 * nat_abs d) (get_or x c (pos 0))) (h s l)))

-- ---- the calls
module _ (size n : ℕ) (t : Told) (u : Use) (S : Standing size n t u) (F : Fitting size n u) where
  abbrev s : Sheet
  s = u.sheet

  abbrev rs : List Relation
  rs = u.relations

  abbrev qs : List Coords
  qs = u.constants

  values_fit : unfit_values size s.count s.d u.values ≡ false
  values_fit = (or_parts (unfit_values size s.count s.d u.values) _ F.fits).0

  relations_fit : unfit_relations size s rs qs ≡ false
  relations_fit = (or_parts (unfit_values size s.count s.d u.values) _ F.fits).1

  abbrev Fine : Runs.Outcome → Type 0
  Fine o = Fitting size n o.then × (o.reply ≢ Err Unfit)

  -- a call that is not open
  closed-call : Fine (Runs.stays u NotOpen)
  closed-call = (F, λ q. let z : ◌≡◌ {A = ℕ} 0 1 = cc in omega arith)

  freely : Fitting size n (Runs.Outcome.then (Runs.drops u))
  freely = record { lists = record { relations = F.lists.relations; constants = F.lists.constants; proposal = F.lists.proposal; working = F.lists.working; spare_list = F.lists.spare_list }; fits = F.fits; phase-fits = tt }

  abbrev judged : Relation → Coords → Bool
  judged r x = bad_relation size s.count r x

  -- ---- binding
  bind_fine : (cs : List ℤ) (q : Coords) → n ≤ length cs → (a : Result (Unit {0}) Refusal) → bind_answer size s u.values rs qs cs q ≡ a → Fine (rebound u (bind_by a s rs qs cs q))
  bind_fine cs q long (Err k) e = (
    freely,
    λ z. true≢false (sym (bind_refusals Unfit size s u.values rs qs (λ x a b q. omega arith) cs q (e ∙ same_refusal k Unfit z)).0 ∙ test),
  )
    where
      test : (ltb (length cs) s.count || unfit size s u.values rs qs) ≡ false
      test = let c = S.count_is in or_from (ltb (length cs) s.count) _ (le-ltb _ _ (omega arith)) F.fits
  bind_fine cs q long (Ok x) e =
      let B = bindable size s u.values rs qs cs q x e in
      let few = B.few in (
        record {
          lists = record {
            relations = subst (λ (k : ℕ). most_relations ≤ k) (sym (length-set rs s.bound (recorded s.count cs))) F.lists.relations;
            constants = subst (λ (k : ℕ). most_relations ≤ k) (sym (length-set qs s.bound q)) F.lists.constants;
            proposal = F.lists.proposal;
            working = F.lists.working;
            spare_list = F.lists.spare_list;
          };
          fits = or_from (unfit_values size s.count s.d u.values) _ values_fit
              (fit_relations size (record { count = s.count; bound = s.bound + 1; d = s.d }) (set rs s.bound (recorded s.count cs)) (set qs s.bound q)
              (subst (λ (k : ℕ). most_relations ≤ k) (sym (length-set rs s.bound (recorded s.count cs))) F.lists.relations)
              (subst (λ (k : ℕ). most_relations ≤ k) (sym (length-set qs s.bound q)) F.lists.constants)
              (λ i l. ⊎_elim (older i) (λ h. newest few B.coefs B.constant i (omega arith)) (cases_lt i s.bound)));
          phase-fits = tt;
        },
        fine nothing,
      )
    where
      older : (i : ℕ) → i < s.bound → judged (relation_at (set rs s.bound (recorded s.count cs)) i) (get_or (set qs s.bound q) i []) ≡ false
      older i l =
          let o : i ≢ s.bound = omega arith in
          ap₂ judged (get_or-set_other rs s.bound i (recorded s.count cs) none o) (get_or-set_other qs s.bound i q [] o) ∙ each_relation size s rs qs relations_fit i l

      newest : s.bound < 24 → bad_coefs s.count cs ≡ false → bad_constant size q ≡ false → (i : ℕ) → i ≡ s.bound
          → judged (relation_at (set rs s.bound (recorded s.count cs)) i) (get_or (set qs s.bound q) i []) ≡ false
      newest few b c i h =
          let f = S.count_is in
          ap (λ (k : ℕ). judged (relation_at (set rs s.bound (recorded s.count cs)) k) (get_or (set qs s.bound q) k [])) h
          ∙ ap₂ judged (get_or-set_same rs s.bound (recorded s.count cs) none (omega (arith, F.lists.relations))) (get_or-set_same qs s.bound q [] (omega (arith, F.lists.constants)))
          ∙ or_from (bad_coefs s.count (recorded s.count cs).coefficients) _
          (any_ext s.count _ _ (λ p l. ap (above 1000) (get_or-written s.count cs (replicate most_parameters (pos 0)) (pos 0) (omega arith) p l)) ∙ b) c

  -- ---- unbinding
  unbind_fine : (i : ℤ) (a : Result (Unit {0}) Refusal) → unbind_answer size s u.values rs qs i ≡ a → Fine (rebound u (unbind_by a s rs qs (nat_abs i)))
  unbind_fine i (Err k) e = (
    freely,
    λ z. true≢false (sym (unbind_refusals Unfit size s u.values rs qs (λ x a b q. omega arith) i (e ∙ same_refusal k Unfit z)).0 ∙ F.fits),
  )
  unbind_fine i (Ok x) e =
      let k = nat_abs i in
      let lt = (unbindable size s u.values rs qs i x e).1 in
      let lr : s.bound ≤ length rs = omega (arith, S.few, F.lists.relations) in
      let lq : s.bound ≤ length qs = omega (arith, S.few, F.lists.constants) in
      let cr = subst (λ (k : ℕ). most_relations ≤ k) (sym (closed-length s.bound k rs none lt lr)) F.lists.relations in
      let cq = subst (λ (k : ℕ). most_relations ≤ k) (sym (closed-length s.bound k qs [] lt lq)) F.lists.constants in (
        record {
          lists = record { relations = cr; constants = cq; proposal = F.lists.proposal; working = F.lists.working; spare_list = F.lists.spare_list };
          fits = or_from (unfit_values size s.count s.d u.values) _ values_fit
              (fit_relations size (record { count = s.count; bound = s.bound - 1; d = s.d }) (closed s.bound k rs) (closed s.bound k qs) cr cq
              (λ j l. ⊎_elim
              (λ below. ap₂ judged (closed_below s.bound k rs none lt lr j below) (closed_below s.bound k qs [] lt lq j below) ∙ each_relation size s rs qs relations_fit j (omega arith))
              (λ above. ap₂ judged (closed-above s.bound k rs none lt lr j above (omega arith)) (closed-above s.bound k qs [] lt lq j above (omega arith)) ∙ each_relation size s rs qs relations_fit (j + 1) (omega arith))
              (cases_lt j k)));
          phase-fits = tt;
        },
        fine nothing,
      )

  -- ---- gripping
  abbrev slots : List ℕ
  slots = replicate u.places 0

  grip_test : (roles : List Role) → n ≤ length roles → (ltb (length roles) s.count || ltb (length slots) most_counted || unfit size s u.values rs qs) ≡ false
  grip_test roles long =
      let c = S.count_is in
      let p = length-replicate {A = ℕ} u.places 0 in
      or_from (ltb (length roles) s.count || ltb (length slots) most_counted) _
      (or_from (ltb (length roles) s.count) _ (le-ltb _ _ (omega arith)) (le-ltb _ _ (omega (arith, F.lists.spare_list)))) F.fits

  grip_fine : (roles : List Role) → n ≤ length roles → (a : Result Workings Refusal) → grip_answer size s u.values rs qs roles slots ≡ a → Fine (held_by u a)
  grip_fine roles long (Err k) e = (
    F,
    λ z. true≢false (sym (grip_refusals Unfit size s u.values rs qs (λ x a b q. omega arith) roles slots (e ∙ same_refusal k Unfit z)).0 ∙ grip_test roles long),
  )
  grip_fine roles long (Ok w) e = (
    record {
      lists = record { relations = longer; constants = F.lists.constants; proposal = F.lists.proposal; working = F.lists.working; spare_list = F.lists.spare_list };
      fits = or_from (unfit_values size s.count s.d u.values) _ values_fit
          (fit_relations size s (marked s.count w.roles (bonds s rs qs) w.table rs) qs longer F.lists.constants
          (λ i l. ap (λ (r : Relation). bad_relation size s.count r (get_or qs i [])) (marked-at s rs qs w.roles w.table i l) ∙ each_relation size s rs qs relations_fit i l));
      phase-fits = (of_sheet.0, of_sheet.1 ∙ ap (λ (xs : List Bond). length (counted s.count w.roles xs)) (sym (bonds-marked s rs qs w.roles w.table)));
    },
    fine (spares (Calls.spare_numbers w s rs qs)),
  )
    where
      longer : most_relations ≤ length (marked s.count w.roles (bonds s rs qs) w.table rs)
      longer =
          let a = tab-length s.bound (λ i. bond s.count (relation_at rs i).coefficients (get_or qs i [])) in
          let b = tab-length (length (bonds s rs qs)) (λ i. with_mark (relation_at rs i) (mark_of s.count w.roles (bonds s rs qs) w.table i)) in
          subst (λ (k : ℕ). most_relations ≤ k) (sym (length-written (length (bonds s rs qs)) (tab (length (bonds s rs qs)) (λ i. with_mark (relation_at rs i) (mark_of s.count w.roles (bonds s rs qs) w.table i))) rs
          (omega arith) (omega (arith, S.few, F.lists.relations)))) F.lists.relations

      of_sheet : (w.count ≡ s.count) × (w.m ≡ length (counted s.count w.roles (bonds s rs qs)))
      of_sheet =
          let W = accepted-grip size s u.values rs qs roles slots w e in
          (W.count_is, W.m_is ∙ ap (λ (x : List Role). length (counted s.count x (bonds s rs qs))) (sym W.roles_are))

  -- ---- pulling
  module _ (w : Workings) (G : GrippedWell n t.bound t.roles w) (W : GripFits u w) (wishes : List Coords) (long : n ≤ length wishes) where
    pull_test : unfit_pull size s u.values rs qs w wishes u.proposal u.working ≡ false
    pull_test =
        let c = S.count_is in
        or_from (ltb (length wishes) s.count || ltb (length u.proposal) s.count || ltb (length u.working) working_places || unfit size s u.values rs qs || not (eqb w.count s.count)) _
        (or_from (ltb (length wishes) s.count || ltb (length u.proposal) s.count || ltb (length u.working) working_places || unfit size s u.values rs qs) _
        (or_from (ltb (length wishes) s.count || ltb (length u.proposal) s.count || ltb (length u.working) working_places) _
        (or_from (ltb (length wishes) s.count || ltb (length u.proposal) s.count) _
        (or_from (ltb (length wishes) s.count) _ (le-ltb _ _ (omega arith)) (le-ltb _ _ (omega (arith, F.lists.proposal)))) (le-ltb _ _ F.lists.working)) F.fits)
        (not_from_true _ (eq-eqb _ _ W.0))) (not_from_true _ (eq-eqb _ _ W.1))

    never : answer size n t u S w G wishes ≢ Err Unfit
    never = pull_refusals Unfit size n t.roles (shares n t.roles) (counted n t.roles t.bound) w.table s.d u.values wishes (λ x a b q. omega arith)

    blank : working_places ≤ length (written working_places (zeros working_places size) u.working)
    blank = let z = zeros-length working_places size in subst (λ (k : ℕ). working_places ≤ k) (sym (length-written working_places (zeros working_places size) u.working (omega arith) F.lists.working)) F.lists.working

    low_of : (e : ℤ) → pos 0 <ℤ e → lt_z e (pos 1) ≡ false
    low_of e h = false_from_ne_true (lt_z e (pos 1)) (λ q. omega (arith, ints))

    pulled_fine : (a : Result Placing Refusal) → answer size n t u S w G wishes ≡ a → Fine (pulled_to u w (outcome size n t u S w G wishes false a))
    pulled_fine (Err k) e = (
      record {
        lists = record {
          relations = F.lists.relations;
          constants = F.lists.constants;
          proposal = let z = zeros-length n size in subst (λ (k : ℕ). n ≤ k) (sym (length-written n (zeros n size) u.proposal (omega arith) F.lists.proposal)) F.lists.proposal;
          working = blank;
          spare_list = F.lists.spare_list;
        };
        fits = F.fits;
        phase-fits = W;
      },
      λ z. never (e ∙ same_refusal k Unfit z),
    )
    pulled_fine (Ok q) e =
        let A = is_accepted size n t u S w G wishes q e in
        let z = A.meets_all.shaped.values in
        let longer = subst (λ (k : ℕ). n ≤ k) (sym (length-written n q.nums u.proposal (omega arith) F.lists.proposal)) F.lists.proposal in (
          record {
            lists = record { relations = F.lists.relations; constants = F.lists.constants; proposal = longer; working = blank; spare_list = F.lists.spare_list };
            fits = F.fits;
            phase-fits = (
              W,
              ap (λ (N : ℕ). unfit_values size N q.over (written n q.nums u.proposal)) S.count_is
                  ∙ fit_new_values size n q.over (written n q.nums u.proposal) longer (or_from (lt_z q.over (pos 1)) _ (low_of q.over A.meets_all.shaped.above) A.low)
                  (same-values size n q.over (written n q.nums u.proposal) q.nums (λ p l. get_or-written n q.nums u.proposal [] (omega arith) p l) ∙ A.inside),
            );
          },
          fine (placing (record { over = q.over; nums = take s.count (written n q.nums u.proposal) })),
        )

    pull_fine : Fine (Runs.pulls size u w wishes)
    pull_fine = subst (λ (P : Calls.Pulled). Fine (pulled_to u w P)) (sym (pulled_is size n t u S w G wishes ∙ ap (λ (b : Bool). outcome size n t u S w G wishes b (answer size n t u S w G wishes)) pull_test))
        (pulled_fine (answer size n t u S w G wishes) refl)

  -- ---- keeping
  keep_fine : (e : ℤ) → unfit_values size s.count e u.proposal ≡ false → Fine (Runs.keeps size u e)
  keep_fine e h = subst (λ (k : Result Sheet Refusal × List Coords). Fine (freed u k.0 k.1)) (sym (cond-false (unfit size s u.values rs qs || unfit_values size s.count e u.proposal) _ _ (or_from (unfit size s u.values rs qs) _ F.fits h))) (
    record {
      lists = record { relations = F.lists.relations; constants = F.lists.constants; proposal = F.lists.proposal; working = F.lists.working; spare_list = F.lists.spare_list };
      fits = or_from (unfit_values size s.count e (written s.count u.proposal u.values)) _
          (fit_new_values size s.count e (written s.count u.proposal u.values)
          (subst (λ (k : ℕ). s.count ≤ k) (sym (length-written s.count u.proposal u.values enough room)) room)
          (or_parts (ltb (length u.proposal) s.count) _ parts.0).1
          (same-values size s.count e (written s.count u.proposal u.values) u.proposal (λ p l. get_or-written s.count u.proposal u.values [] enough p l) ∙ parts.1))
          relations_fit;
      phase-fits = tt;
    },
    fine nothing,
  )
    where
      parts : (ltb (length u.proposal) s.count || bad_denominator e ≡ false) × (bad_values size s.count e u.proposal ≡ false)
      parts = or_parts (ltb (length u.proposal) s.count || bad_denominator e) _ h

      enough : s.count ≤ length u.proposal
      enough = (fit_values size s.count e u.proposal h).long

      room : s.count ≤ length u.values
      room = (fit_values size s.count s.d u.values values_fit).long

  -- ---- any call, in any phase
  next_fine : (p : Phase) → PhaseStands size n t u.proposal p → PhaseFits size u p → (k : Call) → LongCall n k → Fine (in_turn size u p k)
  next_fine free P Q (bind cs q) l = bind_fine cs q l (bind_answer size s u.values rs qs cs q) refl
  next_fine free P Q (unbind i) l = unbind_fine i (unbind_answer size s u.values rs qs i) refl
  next_fine free P Q (grip roles) l = grip_fine roles l (grip_answer size s u.values rs qs roles slots) refl
  next_fine free P Q (pull wishes) l = closed-call
  next_fine free P Q keep l = closed-call
  next_fine free P Q drop_grip l = closed-call
  next_fine (gripped w) P Q (bind cs q) l = closed-call
  next_fine (gripped w) P Q (unbind i) l = closed-call
  next_fine (gripped w) P Q (grip roles) l = closed-call
  next_fine (gripped w) P Q (pull wishes) l = pull_fine w P Q wishes l
  next_fine (gripped w) P Q keep l = closed-call
  next_fine (gripped w) P Q drop_grip l = (freely, fine nothing)
  next_fine (proposing w e) P Q (bind cs q) l = closed-call
  next_fine (proposing w e) P Q (unbind i) l = closed-call
  next_fine (proposing w e) P Q (grip roles) l = closed-call
  next_fine (proposing w e) P Q (pull wishes) l = pull_fine w P.0 Q.0 wishes l
  next_fine (proposing w e) P Q keep l = keep_fine e Q.1
  next_fine (proposing w e) P Q drop_grip l = (freely, fine nothing)

-- ---- the induction
fits_on : (size n : ℕ) (t : Told) (u : Use) → Standing size n t u → Fitting size n u → (h : List Entry) → Made size u h → LongCalls n h → NeverUnfit h
fits_on size n t u S F [] m l = tt
fits_on size n t u S F (e ∷ h) m l =
    let a = stands_on size n t u S e m.0 in
    let f = next_fine size n t u S F u.phase S.phase_is F.phase-fits e.call l.0 in (
      (λ q. f.1 (defined_too Unfit (Runs.step size u e.call).reply e.reply m.0.reply q)),
      fits_on size n (tell n t e.call e.reply) (Runs.step size u e.call).then a.0 f.0 h m.1 l.1,
    )

-- ---- an opening
opened-fits : (size n : ℕ) (values : List Coords) (s : Sheet) → (opening size n values).0 ≡ Ok s → (rs : List Relation) (qs proposal working : List Coords) (places : ℕ)
    → LongLists n (opened s (opening size n values).1 rs qs proposal working places) → Fitting size n (opened s (opening size n values).1 rs qs proposal working places)
opened-fits size n values s e rs qs proposal working places long =
    on_opened size n values s e (λ x vs. Fitting size n (opened x vs rs qs proposal working places)) (λ few room.
    let enough : n ≤ length (zeros n size) = let z = zeros-length n size in omega arith in
    record {
      lists = record { relations = long.relations; constants = long.constants; proposal = long.proposal; working = long.working; spare_list = long.spare_list };
      fits = or_from (unfit_values size n (pos 1) (written n (zeros n size) values)) _
          (fit_new_values size n (pos 1) (written n (zeros n size) values) (subst (λ (k : ℕ). n ≤ k) (sym (length-written n (zeros n size) values enough room)) room) refl
          (same-values size n (pos 1) (written n (zeros n size) values) (zeros n size) (λ p l. get_or-written n (zeros n size) values [] enough p l) ∙ inside))
          (fit_relations size (record { count = n; bound = 0; d = pos 1 }) rs qs long.relations long.constants (λ i l. absurd (not-suc-le-zero l)));
      phase-fits = tt;
    })
  where
    inside : bad_values size n (pos 1) (zeros n size) ≡ false
    inside = none_any n _ (λ p l. none_any size _ (λ c b. ap (above 47560) (coord-grid n size (λ p c. pos 0) p l c b)))

pub fits_always : FitsAlways
fits_always size n values s e rs qs proposal working places long h m l =
    fits_on size n (at_opening size n) (opened s (opening size n values).1 rs qs proposal working places)
    (stands_opened size n values s e rs qs proposal working places) (opened-fits size n values s e rs qs proposal working places long) h m l
