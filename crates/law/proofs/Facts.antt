-- Pivots, workings, and which relations are spare.
use Rattle.std.proofs.Common.{◌≡◌, ℕ, zero, suc, ◌<◌, ◌≤◌, Bool, true, false, cond, ◌||◌, ltb, ◌≢◌, ◌↔◌, List, [], ◌∷◌, ◌++◌, length, get_or, take, drop, ℤ, pos, ◌*ℤ◌, ◌≤ℤ◌, Ok, Result, sym, refl, ap, ◌∙◌, subst, add-one, arith, length-append}
use mathlib.Core.Bool.{false≢true}
use Rattle.std.proofs.Math.Seq.{get_or-append_seam, split_at}
use Rattle.std.proofs.lemmas.List.{get_or_append_left, take_more}
use Rattle.std.proofs.lemmas.Bool.{true_from_ne_false, not-false, ltb-false}
use Rattle.whole.specs.Lists.{at}
use Rattle.whole.specs.Sums.{sum_below}
use Rattle.whole.specs.Tests.{nonzero}
use Rattle.whole.proofs.Lists.{tab-length}
use Rattle.whole.proofs.Sums.{sum_ext}
use Rattle.whole.proofs.Tests.{nonzero_false}
use Rattle.linear.specs.Elimination.{Grid, entry, start}
use Rattle.linear.proofs.Limits.{accepted}
use Rattle.linear.proofs.Meaning as Meant
use Rattle.linear.proofs.Outcomes.{passed, went_on}
use Rattle.linear.proofs.Pivots as Pivoted
use Rattle.linear.proofs.Spares as Spared
use Rattle.records.specs.declared.refusal.Refusal.{Refusal}
use Rattle.records.specs.declared.refusal.Refusal.TheVariants.{Unfit, Roles, Crowded}
use Rattle.records.specs.declared.relation.Mark.TheVariants.{Idle, Needed, Spare}
use Rattle.records.specs.declared.relation.Relation.{Relation}
use Rattle.records.specs.declared.role.Role.{Role}
use Rattle.records.specs.declared.role.Role.TheVariants.{Held, Pulled, Loose}
use Rattle.rules.specs.Limits.{most_counted}
use Rattle.rules.specs.Values.{Coords}
use Rattle.rules.specs.Sheets.{Sheet, Bond, no_bond, bonds, relation_at, Workings, unfit}
use Rattle.rules.specs.Gripping.{role, share, is_loose, is_weight, bad_weight, bad_roles, counts, counted, coef, is_needed, is_spare, row_of, mark_of, shares, table}
use Rattle.rules.specs.Calls.{grip_on, grip_answer, marks_after}
use Rattle.rules.proofs.Bonds.{nth, marked-at}
use Rattle.rules.proofs.Counting.{counted-append}
use Rattle.rules.proofs.Roles.{good-weights, share-≥0, no_share, weight_is}
use Rattle.law.specs.Standing.{GrippedWell}
use Rattle.law.specs.Facts.{table_after, Pivots, Diagonal, WorkedOut, AcceptedGrip, Combination, SpareExactly}

shares-≥0 : (n : ℕ) (roles : List Role) → bad_roles n roles ≡ false → (s : ℕ) → s < n → pos 0 ≤ℤ share (role roles s)
shares-≥0 n roles e s l = share-≥0 (role roles s) (good-weights n roles e s l)

pub pivots : Pivots
pivots n roles bs e k l = Pivoted.pivots n (length bs) (λ s. share (role roles s)) (coef bs) (shares-≥0 n roles e) k l

pub diagonal : Diagonal
diagonal n roles bs e k l =
    let d = Meant.diagonal n (length bs) (λ s. share (role roles s)) (coef bs) (shares-≥0 n roles e) k l in
    (Pivoted.pivots_last n (length bs) (λ s. share (role roles s)) (coef bs) (shares-≥0 n roles e) k l, d.0, d.1)

-- ---- the workings of an accepted grip
module _ (n : ℕ) (roles : List Role) (all : List Bond) (w : Workings) where
  abbrev those : List Bond
  those = counted n roles all

  abbrev work : Grid → Workings
  work t = record { count = n; m = length those; table = t; roles = roles; shares = shares n roles }

  made : (y : Grid) → bad_roles n roles ≡ false → ltb most_counted (length those) ≡ false → table n roles those ≡ Ok y → ◌≡◌ {A = Result Workings Refusal} (Ok (work y)) (Ok w) → WorkedOut n roles all w
  made y good few q h =
      let same : work y ≡ w = cc in
      let a = accepted (length those) (length those) (start n (length those) (λ p. share (role roles p)) (coef those)) y q in
      subst (λ (x : Workings). WorkedOut n roles all x) same (record {
        good = good;
        few = ltb-false _ _ few;
        count_is = refl;
        m_is = refl;
        roles_are = refl;
        shares_are = refl;
        table_is = a.0;
        within = a.1;
        means = Meant.finished n (length those) (λ p. share (role roles p)) (coef those) y (shares-≥0 n roles good) q;
      })

  pub gripped_on : grip_on n roles all ≡ Ok w → WorkedOut n roles all w
  gripped_on e =
      let a8 = passed (bad_roles n roles) Roles _ w e in
      let a9 = passed (ltb most_counted (length those)) Crowded _ w a8.1 in
      let g = went_on (table n roles those) _ w a9.1 in
      made g.0 a8.0 a9.0 g.1 g.2

  -- their table means what a finished elimination means
  pub gripped-well : WorkedOut n roles all w → GrippedWell n all roles w
  gripped-well W = record { roles_are = W.roles_are; weights = good-weights n roles W.good; shares_are = W.shares_are; means = W.means }

pub accepted-grip : AcceptedGrip
accepted-grip size s vs rs qs roles list w e =
    let a1 = passed (ltb (length roles) s.count || ltb (length list) most_counted || unfit size s vs rs qs) Unfit _ w e in
    gripped_on s.count (take s.count roles) (bonds s rs qs) w a1.1

-- ---- the relations that count, split at one
module _ (n : ℕ) (roles : List Role) where
  counted_split : (a : List Bond) (r : Bond) (b : List Bond) → counts n roles r.coefs ≡ true → counted n roles (a ++ (r ∷ b)) ≡ counted n roles a ++ (r ∷ counted n roles b)
  counted_split a r b e = counted-append n roles a (r ∷ b) ∙ (λ i. counted n roles a ++ cond (e i) (r ∷ counted n roles b) (counted n roles b))

  -- the row of relation i is how many of the earlier ones count
  pub row_is : (bs : List Bond) (i : ℕ) → i ≤ length bs → row_of n roles bs i ≡ length (counted n roles (take i bs))
  row_is bs zero l = refl
  row_is bs (suc i) l =
      by (counts n roles (get_or bs i no_bond).coefs) refl (row_is bs i (omega arith))
      ∙ sym (ap (λ (xs : List Bond). length xs) (counted-append n roles (take i bs) (get_or bs i no_bond ∷ [])))
      ∙ ap (λ (xs : List Bond). length (counted n roles xs)) (sym (take_more bs i no_bond l) ∙ ap (λ (k : ℕ). take k bs) (add-one i))
    where
      by : (x : Bool) → counts n roles (get_or bs i no_bond).coefs ≡ x → row_of n roles bs i ≡ length (counted n roles (take i bs))
          → (elim x as (λ z. ℕ) [ true ↦ suc (row_of n roles bs i) | false ↦ row_of n roles bs i ]) ≡ length (counted n roles (take i bs) ++ cond x (get_or bs i no_bond ∷ []) [])
      by true e ih = let a = length-append (counted n roles (take i bs)) (get_or bs i no_bond ∷ []) in omega arith
      by false e ih = let a = length-append (counted n roles (take i bs)) [] in omega arith

-- with good weights a share is not 0 exactly for the loose
loose_share : (r : Role) → bad_weight r ≡ false → is_loose r ≡ true → share r ≢ pos 0
loose_share Held w e = absurd (false≢true e)
loose_share Pulled w e = absurd (false≢true e)
loose_share (Loose x) w e = (weight_is x (not-false (is_weight x) w)).some

-- a combination of the rows before the one at the split
module _ (n : ℕ) (roles : List Role) (good : bad_roles n roles ≡ false) (a : List Bond) (r : Bond) (b : List Bond) where
  abbrev rows : List Bond
  rows = a ++ (r ∷ b)

  own : (s : ℕ) → coef rows (length a) s ≡ at r.coefs s
  own s = ap (λ (x : Bond). at x.coefs s) (get_or-append_seam a r b no_bond)

  others : (y : ℕ → ℤ) (s : ℕ) → sum_below (length a) (λ j. y j *ℤ coef rows j s) ≡ sum_below (length a) (λ j. y j *ℤ coef a j s)
  others y s = sum_ext (length a) (λ j l. ap (λ (x : Bond). y j *ℤ at x.coefs s) (get_or_append_left a (r ∷ b) no_bond j l))

  spare-split : (entry (table_after n roles rows (length rows)) (length a) (length a) ≡ pos 0) ↔ Combination n roles a r
  spare-split = let h = Spared.spares n (length rows) (λ s. share (role roles s)) (coef rows) (shares-≥0 n roles good) (length a) (let x = length-append a (r ∷ b) in omega arith) in (
    (λ e. let c = h.0 e in (c.0, c.1, c.2, λ s l q. ap (λ x. c.0 *ℤ x) (sym (own s)) ∙ c.3 s l (loose_share (role roles s) (good-weights n roles good s l) q) ∙ others c.1 s)),
    λ c. h.1 (c.0, c.1, c.2, λ s l q. ap (λ x. c.0 *ℤ x) (own s) ∙ c.3 s l (true_from_ne_false (is_loose (role roles s)) (λ f. q (no_share (role roles s) f))) ∙ sym (others c.1 s)),
  )

-- ---- marks
spare_mark : (t : Grid) (j : ℕ) (b : Bool) → (cond b (cond (is_needed t j) Needed Spare) Idle ≡ Spare) ↔ ((b ≡ true) × (entry t j j ≡ pos 0))
spare_mark t j b = by b (is_needed t j) refl
  where
    by : (b x : Bool) → is_needed t j ≡ x → (cond b (cond x Needed Spare) Idle ≡ Spare) ↔ ((b ≡ true) × (entry t j j ≡ pos 0))
    by false x e = ((λ h. absurd (false≢true (ap is_spare h))), λ h. absurd (false≢true h.0))
    by true true e = ((λ h. absurd (false≢true (ap is_spare h))), λ h. absurd (false≢true (ap nonzero (sym h.1) ∙ e)))
    by true false e = ((λ h. (refl, nonzero_false (entry t j j) e)), λ h. refl)

module _ (size : ℕ) (s : Sheet) (vs : List Coords) (rs : List Relation) (qs : List Coords) (roles : List Role) (list : List ℕ) (w : Workings)
    (e : grip_answer size s vs rs qs roles list ≡ Ok w) (i : ℕ) (l : i < s.bound) where
  abbrev n : ℕ
  n = s.count

  abbrev ρ : List Role
  ρ = take n roles

  abbrev all : List Bond
  all = bonds s rs qs

  abbrev b : Bond
  b = get_or all i no_bond

  abbrev earlier : List Bond
  earlier = counted n ρ (take i all)

  W : WorkedOut n ρ all w
  W = accepted-grip size s vs rs qs roles list w e

  long : length all ≡ s.bound
  long = tab-length s.bound (nth n rs qs)

  -- the relations, split at this one
  split : all ≡ take i all ++ (b ∷ drop (suc i) all)
  split = let z = long in split_at all i no_bond (omega arith)

  abbrev done : Grid
  done = table_after n ρ (counted n ρ all) (length (counted n ρ all))

  mark_is : (relation_at (marks_after (Ok w) s rs qs) i).mark ≡ cond (counts n ρ b.coefs) (cond (is_needed done (length earlier)) Needed Spare) Idle
  mark_is =
      let z = long in
      ap (λ (r : Relation). r.mark) (marked-at s rs qs w.roles w.table i l)
      ∙ (λ k. mark_of n (W.roles_are k) all (W.table_is k) i)
      ∙ ap (λ (j : ℕ). cond (counts n ρ b.coefs) (cond (is_needed done j) Needed Spare) Idle) (row_is n ρ all i (omega arith))

  here : counts n ρ b.coefs ≡ true → (entry done (length earlier) (length earlier) ≡ pos 0) ↔ Combination n ρ earlier b
  here c = subst (λ (xs : List Bond). (entry (table_after n ρ xs (length xs)) (length earlier) (length earlier) ≡ pos 0) ↔ Combination n ρ earlier b)
      (sym (ap (counted n ρ) split ∙ counted_split n ρ (take i all) b (drop (suc i) all) c))
      (spare-split n ρ W.good earlier b (counted n ρ (drop (suc i) all)))

  exactly : ((relation_at (marks_after (Ok w) s rs qs) i).mark ≡ Spare) ↔ ((counts n ρ b.coefs ≡ true) × Combination n ρ earlier b)
  exactly = let h = spare_mark done (length earlier) (counts n ρ b.coefs) in
      ((λ q. let x = h.0 (sym mark_is ∙ q) in (x.0, (here x.0).0 x.1)), λ c. mark_is ∙ h.1 (c.0, (here c.0).1 c.1))

pub spare-exactly : SpareExactly
spare-exactly size s vs rs qs roles list w e i l = exactly size s vs rs qs roles list w e i l
