-- What accepted calls say of their tests.
use Rattle.std.proofs.Common.{◌≡◌, ℕ, ◌<◌, ◌≤◌, min, true, false, not, ◌||◌, eqb, ltb, leb, List, length, ℤ, pos, nat_abs, Ok, Err, Result, sym, subst, arith}
use native.Mathlib.Nat.{min-eq_left}
use lib.Signed.{lt_z}
use borrow.Author.Differences.{ints}
use Rattle.std.proofs.lemmas.Bool.{cond_both, or_parts, not-false, ltb-false, leb-false}
use Rattle.whole.specs.Lists.{at}
use Rattle.whole.specs.Tests.{any, nonzero}
use Rattle.linear.proofs.Outcomes.{not_accepted, passed}
use Rattle.records.specs.declared.refusal.Refusal.{Refusal}
use Rattle.records.specs.declared.refusal.Refusal.TheVariants.{Unfit, Count, Full, Coefficients, Constant, Untrue, NoRelation}
use Rattle.records.specs.declared.relation.Relation.{Relation}
use Rattle.rules.specs.Limits.{most_parameters, working_places}
use Rattle.rules.specs.Values.{Coords, zeros, written}
use Rattle.rules.specs.Sheets.{Sheet, Workings, bond, bad_coefs, bad_constant, unfit}
use Rattle.rules.specs.Calls.{opening, untrue, bind_answer, unbind_answer, unfit_pull}

-- what holds of a sheet of n parameters with nothing bound and zeros for its values holds after an accepted opening
pub on_opened : (size n : ℕ) (values : List Coords) (s : Sheet) → (opening size n values).0 ≡ Ok s → (P : Sheet → List Coords → Type 0)
    → (n ≤ most_parameters → n ≤ length values → P (record { count = n; bound = 0; d = pos 1 }) (written n (zeros n size) values)) → P s (opening size n values).1
on_opened size n values s e P new = cond_both (ltb (length values) (min n most_parameters)) _ _ Holds
    (λ a h. absurd (not_accepted Unfit s h))
    (λ a. cond_both (ltb n 1 || ltb most_parameters n) _ _ Holds
    (λ b h. absurd (not_accepted Count s h))
    (λ b h.
    let same : record { count = n; bound = 0; d = pos 1 } ≡ s = cc in
    let few = ltb-false _ _ (or_parts (ltb n 1) _ b).1 in
    let room = ltb-false _ _ a in
    let m = min-eq_left few in
    subst (λ (x : Sheet). P x (written n (zeros n size) values)) same (new few (omega arith))))
    e
  where
    Holds : Result Sheet Refusal × List Coords → Type 0
    Holds o = o.0 ≡ Ok s → P s o.1

module _ (size : ℕ) (s : Sheet) (vs : List Coords) (rs : List Relation) (qs : List Coords) where
  pub record Bindable (cs : List ℤ) (q : Coords) : Type 0 where
    pub fits : unfit size s vs rs qs ≡ false
    pub long : s.count ≤ length cs
    pub few : s.bound < 24
    pub coefs : bad_coefs s.count cs ≡ false
    pub constant : bad_constant size q ≡ false
    pub holds : untrue size s.count s.d vs (bond s.count cs q) ≡ false

  pub bindable : (cs : List ℤ) (q : Coords) (u : Unit {0}) → bind_answer size s vs rs qs cs q ≡ Ok u → Bindable cs q
  bindable cs q u e =
      let a1 = passed (ltb (length cs) s.count || unfit size s vs rs qs) Unfit _ u e in
      let o = or_parts (ltb (length cs) s.count) _ a1.0 in
      let a3 = passed (leb 24 s.bound) Full _ u a1.1 in
      let a4 = passed (not (any s.count (λ p. nonzero (at cs p))) || bad_coefs s.count cs) Coefficients _ u a3.1 in
      let a5 = passed (bad_constant size q) Constant _ u a4.1 in
      record {
        fits = o.1;
        long = ltb-false _ _ o.0;
        few = leb-false _ _ a3.0;
        coefs = (or_parts (not (any s.count (λ p. nonzero (at cs p)))) _ a4.0).1;
        constant = a5.0;
        holds = (passed (untrue size s.count s.d vs (bond s.count cs q)) Untrue _ u a5.1).0;
      }

  pub unbindable : (i : ℤ) (u : Unit {0}) → unbind_answer size s vs rs qs i ≡ Ok u → (unfit size s vs rs qs ≡ false) × (nat_abs i < s.bound)
  unbindable i u e =
      let a1 = passed (unfit size s vs rs qs) Unfit _ u e in
      let o = or_parts (lt_z i (pos 0)) _ (passed (lt_z i (pos 0) || not (lt_z i (pos s.bound))) NoRelation _ u a1.1).0 in
      (a1.0, within s.bound o.0 (not-false _ o.1))
    where
      within : (b : ℕ) → lt_z i (pos 0) ≡ false → lt_z i (pos b) ≡ true → nat_abs i < b
      within b lo hi = omega (arith, ints)

  pub pullable : (w : Workings) (wishes proposal working : List Coords) → unfit_pull size s vs rs qs w wishes proposal working ≡ false → (s.count ≤ length proposal) × (unfit size s vs rs qs ≡ false)
  pullable w wishes proposal working e =
      let n = s.count in
      let a = or_parts (ltb (length wishes) n || ltb (length proposal) n || ltb (length working) working_places || unfit size s vs rs qs || not (eqb w.count n)) _ e in
      let b = or_parts (ltb (length wishes) n || ltb (length proposal) n || ltb (length working) working_places || unfit size s vs rs qs) _ a.0 in
      let c = or_parts (ltb (length wishes) n || ltb (length proposal) n || ltb (length working) working_places) _ b.0 in
      let d = or_parts (ltb (length wishes) n || ltb (length proposal) n) _ c.0 in
      (ltb-false _ _ (or_parts (ltb (length wishes) n) _ d.0).1, c.1)
