-- The law for runs, call by call and by induction over the history.
use Rattle.std.proofs.Common.{◌≡◌, ℕ, List, [], ◌∷◌, ◌++◌, take, pos, Ok, sym, refl, ap, ◌∙◌, subst, not-suc-le-zero, arith}
use borrow.Author.Differences.{ints}
use Rattle.records.specs.declared.relation.Relation.{Relation}
use Rattle.rules.specs.Values.{Coords, zeros}
use Rattle.rules.specs.Sheets.{Sheet}
use Rattle.rules.specs.Pulling.{Placing}
use Rattle.rules.specs.Calls.{opening}
use Rattle.rules.specs.Runs.{Use, step, opened}
use Rattle.rules.proofs.Accepted.{on_opened}
use Rattle.rules.proofs.Bonds.{take-written_all, zeros-length}
use Rattle.law.specs.Histories.{Entry, Stage, Told, at_opening, tell, told_from, told}
use Rattle.law.specs.Placings.{Shaped, AllHold}
use Rattle.law.specs.Law.{shown, KeptAndHeld, OpenRightly, LawfulEntry, LawfulFrom, Permitted, Made, LawForRuns}
use Rattle.law.specs.Standing.{Standing, After, AfterOpening, AfterCall}
use Rattle.law.specs.Run.{use_after}
use Rattle.law.proofs.Opens.{open_rightly}
use Rattle.law.proofs.Solved.{grid-shaped}
use Rattle.law.proofs.Steps.{next}

-- ---- an opening
pub stands_opened : (size n : ℕ) (values : List Coords) (s : Sheet) → (opening size n values).0 ≡ Ok s
    → (relations : List Relation) (constants proposal working : List Coords) (places : ℕ)
    → Standing size n (at_opening size n) (opened s (opening size n values).1 relations constants proposal working places)
stands_opened size n values s e rs qs proposal working places =
    on_opened size n values s e (λ x vs. Standing size n (at_opening size n) (opened x vs rs qs proposal working places)) (λ few room. record {
      count_is = refl;
      few = omega arith;
      bound_is = refl;
      over_is = refl;
      values_are = take-written_all n (zeros n size) values (zeros-length n size);
      shaped = grid-shaped size n (pos 1) (λ p c. pos 0) (omega (arith, ints));
      holds = λ i l. absurd (not-suc-le-zero l);
      stage_is = refl;
      phase_is = tt;
    })

-- ---- a call
-- what stands makes an entry's values the kept ones
shown_is : (size n : ℕ) (t : Told) (u : Use) → Standing size n t u → (e : Entry) → e.values ≡ u.values → e.d ≡ u.sheet.d → KeptAndHeld size n t e
shown_is size n t u S e same-values same-d = record {
  shaped = subst (λ (p : Placing). Shaped size n p) (sym same) S.shaped;
  kept = same;
  holds = subst (λ (p : Placing). AllHold size n t.bound p) (sym same) S.holds;
}
  where
    same : shown n e ≡ t.kept
    same = λ i. record { over = (same-d ∙ S.over_is) i; nums = (ap (λ (xs : List Coords). take n xs) same-values ∙ S.values_are) i }

-- each call keeps what stands, and its entry is lawful
pub stands_on : (size n : ℕ) (t : Told) (u : Use) → Standing size n t u → (e : Entry) → Permitted size u e
    → Standing size n (tell n t e.call e.reply) (step size u e.call).then × LawfulEntry size n t e
stands_on size n t u S e P =
    let h = next size n t u S u.phase S.stage_is S.phase_is e.call e.reply P.reply in (
      h.0,
      record {
        kept_and_held = shown_is size n (tell n t e.call e.reply) (step size u e.call).then h.0 e P.values P.d;
        open_rightly = rightly S.stage_is (open_rightly size u u.phase e.call e.reply P.reply);
        lawful_reply = h.1;
      },
    )
  where
    rightly : {x : Stage} → x ≡ t.stage → OpenRightly (record t { stage = x }) e.call e.reply → OpenRightly t e.call e.reply
    rightly q o = subst (λ (x : Stage). OpenRightly (record t { stage = x }) e.call e.reply) q o

-- ---- a whole history
runs_on : (size n : ℕ) (t : Told) (u : Use) → Standing size n t u → (h : List Entry) → Made size u h
    → LawfulFrom size n t h × Standing size n (told_from n t h) (use_after size u h)
runs_on size n t u S [] m = (tt, S)
runs_on size n t u S (e ∷ h) m =
    let a = stands_on size n t u S e m.0 in
    let r = runs_on size n (tell n t e.call e.reply) (step size u e.call).then a.0 h m.1 in
    ((a.1, r.0), r.1)

module _ (size n : ℕ) (values : List Coords) (s : Sheet) (e : (opening size n values).0 ≡ Ok s) (relations : List Relation) (constants proposal working : List Coords) (places : ℕ) where
  abbrev u : Use
  u = opened s (opening size n values).1 relations constants proposal working places

  pub after_run : (h : List Entry) → Made size u h → After size n h (use_after size u h)
  after_run h m = let r = runs_on size n (at_opening size n) u (stands_opened size n values s e relations constants proposal working places) h m in
      record { lawful = r.0; stands = r.1 }

pub law : LawForRuns
law size n values s e rs qs proposal working places h m = (after_run size n values s e rs qs proposal working places h m).lawful

-- ---- one entry more
pub told_more : (n : ℕ) (t : Told) (h : List Entry) (e : Entry) → told_from n t (h ++ (e ∷ [])) ≡ tell n (told_from n t h) e.call e.reply
told_more n t [] e = refl
told_more n t (x ∷ h) e = told_more n (tell n t x.call x.reply) h e

pub lawful_more : (size n : ℕ) (t : Told) (h : List Entry) (e : Entry) → LawfulFrom size n t h → LawfulEntry size n (told_from n t h) e → LawfulFrom size n t (h ++ (e ∷ []))
lawful_more size n t [] e L new = (new, tt)
lawful_more size n t (x ∷ h) e L new = (L.0, lawful_more size n (tell n t x.call x.reply) h e L.1 new)

-- and the last entry's law is read off a lawful history
lawful_last : (size n : ℕ) (t : Told) (h : List Entry) (e : Entry) → LawfulFrom size n t (h ++ (e ∷ [])) → LawfulEntry size n (told_from n t h) e
lawful_last size n t [] e L = L.0
lawful_last size n t (x ∷ h) e L = lawful_last size n (tell n t x.call x.reply) h e L.1

pub entry_lawful : (size n : ℕ) (h : List Entry) (e : Entry) (u : Use) → After size n (h ++ (e ∷ [])) u → LawfulEntry size n (told size n h) e
entry_lawful size n h e u A = lawful_last size n (at_opening size n) h e A.lawful

pub after_opening : AfterOpening
after_opening size n values s e relations constants proposal working places = after_run size n values s e relations constants proposal working places [] tt

pub after_call : AfterCall
after_call size n h u A e P =
    let a = stands_on size n (told size n h) u A.stands e P in
    record {
      lawful = lawful_more size n (at_opening size n) h e A.lawful a.1;
      stands = subst (λ (t : Told). Standing size n t (step size u e.call).then) (sym (told_more n (at_opening size n) h e)) a.0;
    }
