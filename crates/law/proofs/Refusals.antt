-- Which refusal a result has.
use Rattle.std.proofs.Common.{◌≡◌, ℕ, zero, suc, ◌≤◌, Bool, true, false, not, ◌||◌, ltb, leb, ◌≢◌, List, length, take, ℤ, pos, ◌*ℤ◌, Ok, Err, Result, sym, refl, ap, ◌∙◌, arith}
use lib.Signed.{lt_z}
use Rattle.whole.specs.Lists.{at}
use Rattle.whole.specs.Tests.{any, nonzero}
use Rattle.linear.specs.Elimination.{Grid, step, beyond, within_limit, eliminated, start}
use Rattle.linear.proofs.Outcomes.{not_accepted}
use Rattle.records.specs.Numbers.{number_of}
use Rattle.records.specs.Outcomes.{guard, onward}
use Rattle.records.specs.declared.refusal.Refusal.{Refusal}
use Rattle.records.specs.declared.refusal.Refusal.TheVariants.{Unfit, Full, Coefficients, Constant, Untrue, NoRelation, Roles, Crowded, TableTooLarge, WishTooFar, GapTooLarge, Impossible, TooFine, OffSheet}
use Rattle.records.specs.declared.relation.Relation.{Relation}
use Rattle.records.specs.declared.role.Role.{Role}
use Rattle.rules.specs.Limits.{most_relations, most_counted, most_denominator, most_residual}
use Rattle.rules.specs.Values.{Coords}
use Rattle.rules.specs.Sheets.{Sheet, Bond, bond, bonds, bad_values, bad_coefs, bad_constant, unfit}
use Rattle.rules.specs.Gripping.{role, bad_roles, counted, coef, share, table}
use Rattle.rules.specs.Pulling.{far_wish, residuals, carried, some_above, contradicts, divisors, lowered, lowered_sums, common, multipliers, numerators, lowest, too_fine, settled, solved, proposed}
use Rattle.rules.specs.Calls.{untrue, bind_answer, unbind_answer, grip_answer}
use Rattle.rules.specs.Runs.{nothing, spares, placing, Reply, Answers}

module _ {A : Type 0} where
  pub fine : {k : Refusal} (a : A) → ◌≢◌ {A = Result A Refusal} (Ok a) (Err k)
  fine {k} a h = not_accepted k a (sym h)

  -- a refusal with another number than this test's is a later one's
  pub later : (b : Bool) (e k : Refusal) (r : Result A Refusal) → number_of e ≢ number_of k → guard b e r ≡ Err k → r ≡ Err k
  later true e k r d h = let z : e ≡ k = cc in absurd (d (ap number_of z))
  later false e k r d h = h

  pub guarded : {k : Refusal} (b : Bool) (e : Refusal) (r : Result A Refusal) → number_of e ≢ number_of k → r ≢ Err k → guard b e r ≢ Err k
  guarded {k} b e r d h q = h (later b e k r d q)

  -- a refusal that no later test gives is this test's
  pub own : {k : Refusal} (b : Bool) (e : Refusal) (r : Result A Refusal) → r ≢ Err k → guard b e r ≡ Err k → (b ≡ true) × (e ≡ k)
  own true e r d h = (refl, cc)
  own false e r d h = absurd (d h)

-- a refusal is the same whatever else might have been given
pub same_refusal : {A B : Type 0} (j k : Refusal) → ◌≡◌ {A = Result A Refusal} (Err j) (Err k) → ◌≡◌ {A = Result B Refusal} (Err j) (Err k)
same_refusal {A} {B} j k e = let q : j ≡ k = cc in ap refusal q
  where
    refusal : Refusal → Result B Refusal
    refusal x = Err x

pub onwards : {A B : Type 0} {k : Refusal} (r : Result A Refusal) (f : A → Result B Refusal) → r ≢ Err k → ((a : A) → f a ≢ Err k) → onward r f ≢ Err k
onwards (Ok a) f d h q = h a q
onwards {k = k} (Err e) f d h q = d (same_refusal e k q)

-- what comes back with a refusal is the defined reply
pub defined_too : (k : Refusal) (r x : Reply) → Answers r x → x ≡ Err k → r ≡ Err k
defined_too k (Ok nothing) x h e = absurd (fine nothing (sym h ∙ e))
defined_too k (Ok (spares xs)) x h e = absurd (fine (spares h.0) (sym h.1 ∙ e))
defined_too k (Ok (placing p)) x h e = absurd (fine (placing p) (sym h ∙ e))
defined_too k (Err j) x h e = sym h ∙ e

-- ---- which refusals each call has beside 1
-- k is not numbered from low to high
abbrev pub Beside : ℕ → ℕ → Refusal → Type 0
Beside low high k = (x : ℕ) → low ≤ x → x ≤ high → x ≢ number_of k

module _ (k : Refusal) (size : ℕ) (s : Sheet) (vs : List Coords) (rs : List Relation) (qs : List Coords) where
  pub bind_refusals : Beside 3 6 k → (cs : List ℤ) (q : Coords) → bind_answer size s vs rs qs cs q ≡ Err k
      → (ltb (length cs) s.count || unfit size s vs rs qs ≡ true) × (Unfit ≡ k)
  bind_refusals other cs q = own (ltb (length cs) s.count || unfit size s vs rs qs) Unfit _
      (guarded (leb most_relations s.bound) Full _ (other 3 (omega arith) (omega arith))
      (guarded (not (any s.count (λ p. nonzero (at cs p))) || bad_coefs s.count cs) Coefficients _ (other 4 (omega arith) (omega arith))
      (guarded (bad_constant size q) Constant _ (other 5 (omega arith) (omega arith))
      (guarded (untrue size s.count s.d vs (bond s.count cs q)) Untrue (Ok tt) (other 6 (omega arith) (omega arith)) (fine tt)))))

  pub unbind_refusals : Beside 7 7 k → (i : ℤ) → unbind_answer size s vs rs qs i ≡ Err k → (unfit size s vs rs qs ≡ true) × (Unfit ≡ k)
  unbind_refusals other i = own (unfit size s vs rs qs) Unfit _
      (guarded (lt_z i (pos 0) || not (lt_z i (pos s.bound))) NoRelation (Ok tt) (other 7 (omega arith) (omega arith)) (fine tt))

  -- the table is refused with 10 alone
  eliminates : Beside 10 10 k → (m j : ℕ) (t : Grid) → eliminated m j t ≢ Err k
  eliminates other m zero t = guarded (beyond m t) TableTooLarge (Ok t) (other 10 (omega arith) (omega arith)) (fine t)
  eliminates other m (suc j) t = onwards (eliminated m j t) (λ x. within_limit m (step m j x)) (eliminates other m j t)
      (λ x. guarded (beyond m (step m j x)) TableTooLarge (Ok (step m j x)) (other 10 (omega arith) (omega arith)) (fine (step m j x)))

  pub grip_refusals : Beside 8 10 k → (roles : List Role) (list : List ℕ) → grip_answer size s vs rs qs roles list ≡ Err k
      → (ltb (length roles) s.count || ltb (length list) most_counted || unfit size s vs rs qs ≡ true) × (Unfit ≡ k)
  grip_refusals other roles list =
      let ρ = take s.count roles in
      let bs = counted s.count ρ (bonds s rs qs) in
      own (ltb (length roles) s.count || ltb (length list) most_counted || unfit size s vs rs qs) Unfit _
      (guarded (bad_roles s.count ρ) Roles _ (other 8 (omega arith) (omega arith))
      (guarded (ltb most_counted (length bs)) Crowded _ (other 9 (omega arith) (omega arith))
      (onwards (table s.count ρ bs) _
      (eliminates (λ x a b. other x (omega arith) b) (length bs) (length bs) (start s.count (length bs) (λ p. share (role ρ p)) (coef bs))) (λ y. fine _))))

-- what follows 13 is refused with 14 or 15 alone
pub solved_refusals : (k : Refusal) (size n : ℕ) (roles : List Role) (vs : List ℤ) (bs : List Bond) (t : Grid) (d : ℤ) (values wishes gs : List Coords) → Beside 14 15 k
    → solved size n roles vs bs t d values wishes gs ≢ Err k
solved_refusals k size n roles vs bs t d values wishes gs other =
    let m = length bs in
    let hs = divisors m t gs in
    let ps = lowered m t hs in
    let g' = lowered_sums size m gs hs in
    let l = common m t ps in
    let xs = multipliers size m t l ps g' in
    let p = lowest size n (pos l *ℤ d) (numerators size n roles vs bs l d values wishes xs) in
    guarded (too_fine size m t l g' xs) TooFine (settled size n p) (other 14 (omega arith) (omega arith))
    (guarded (lt_z (pos most_denominator) p.over) TooFine _ (other 14 (omega arith) (omega arith))
    (guarded (bad_values size n p.over p.nums) OffSheet (Ok p) (other 15 (omega arith) (omega arith)) (fine p)))

pub pull_refusals : (k : Refusal) (size n : ℕ) (roles : List Role) (vs : List ℤ) (bs : List Bond) (t : Grid) (d : ℤ) (values wishes : List Coords) → Beside 11 15 k
    → proposed size n roles vs bs t d values wishes ≢ Err k
pull_refusals k size n roles vs bs t d values wishes other =
    let m = length bs in
    let cs = residuals size n roles bs d values wishes in
    let gs = carried size m t cs in
    guarded (far_wish size n roles wishes) WishTooFar _ (other 11 (omega arith) (omega arith))
    (guarded (some_above most_residual size m cs) GapTooLarge _ (other 12 (omega arith) (omega arith))
    (guarded (contradicts size m t gs) Impossible _ (other 13 (omega arith) (omega arith))
    (solved_refusals k size n roles vs bs t d values wishes gs (λ x a b. other x (omega arith) b))))
