-- What it means that a sheet and its lists fit.
use Rattle.std.proofs.Common.{◌≡◌, ℕ, ◌*◌, ◌<◌, ◌≤◌, false, ◌||◌, ltb, List, [], length, get_or, take, ℤ, pos, nat_abs, ◌≤ℤ◌, sym, subst, arith, get_or-take}
use native.Mathlib.Decide.{dec_lt}
use lib.Signed.{lt_z}
use borrow.Author.Differences.{ints}
use Rattle.std.proofs.lemmas.List.{get_or_past}
use Rattle.std.proofs.lemmas.Bool.{ltb-false, or_parts}
use Rattle.records.specs.declared.relation.Relation.{Relation}
use Rattle.whole.specs.Lists.{at, coord}
use Rattle.whole.specs.Tests.{any, above}
use Rattle.whole.proofs.Lists.{get_or-tab, tab-length}
use Rattle.whole.proofs.Tests.{any_false, above_false}
use Rattle.rules.specs.Values.{Coords}
use Rattle.rules.specs.Sheets.{Sheet, Bond, bond, no_bond, bonds, relation_at, bad_denominator, bad_coefs, bad_relation, unfit_values, unfit}
use Rattle.rules.specs.Bounds.{Fitting}
use Rattle.rules.proofs.Counting.{counted_all}

-- the values of n parameters over d fit
pub record FitValues (size n : ℕ) (d : ℤ) (vs : List Coords) : Type 0 where
  pub long : n ≤ length vs
  pub low : pos 1 ≤ℤ d
  pub high : nat_abs d ≤ 45000
  pub small : (s : ℕ) → s < n → (c : ℕ) → c < size → nat_abs (coord vs s c) ≤ 47560 * nat_abs d

denominator : (d : ℤ) → bad_denominator d ≡ false → (pos 1 ≤ℤ d) × (nat_abs d ≤ 45000)
denominator d e =
    let a = or_parts (lt_z d (pos 1)) _ e in
    let low = a.0 in
    let high = a.1 in
    (omega (arith, ints), omega (arith, ints))

pub fit_values : (size n : ℕ) (d : ℤ) (vs : List Coords) → unfit_values size n d vs ≡ false → FitValues size n d vs
fit_values size n d vs e =
    let a = or_parts (ltb (length vs) n || bad_denominator d) _ e in
    let b = or_parts (ltb (length vs) n) _ a.0 in
    let h = denominator d b.1 in
    record {
      long = ltb-false _ _ b.0;
      low = h.0;
      high = h.1;
      small = λ s l c k. above_false _ (coord vs s c) (any_false size _ (any_false n _ a.1 s l) c k);
    }

-- each bound relation, and past the last one
module _ (s : Sheet) (rs : List Relation) (qs : List Coords) where
  pub bonds_all : (P : Bond → Type 0) → P no_bond → ((i : ℕ) → i < s.bound → P (bond s.count (relation_at rs i).coefficients (get_or qs i []))) → (i : ℕ) → P (get_or (bonds s rs qs) i no_bond)
  bonds_all P none h i = by (dec_lt i s.bound)
    where
      f : ℕ → Bond
      f i = bond s.count (relation_at rs i).coefficients (get_or qs i [])

      by : Dec (i < s.bound) → P (get_or (bonds s rs qs) i no_bond)
      by (yes l) = subst P (sym (get_or-tab s.bound f no_bond i l)) (h i l)
      by (no l) = let e = tab-length s.bound f in subst P (sym (get_or_past (bonds s rs qs) i no_bond (omega arith))) none

pub fitting : Fitting
fitting size s vs rs qs e roles = (
  counted_all s.count roles (λ b. (p : ℕ) → p < s.count → nat_abs (at b.coefs p) ≤ 1000) (bonds s rs qs)
      (bonds_all s rs qs (λ b. (p : ℕ) → p < s.count → nat_abs (at b.coefs p) ≤ 1000) (λ p l. omega arith) coefs),
  counted_all s.count roles (λ b. (c : ℕ) → c < size → nat_abs (at b.constant c) ≤ 47560000) (bonds s rs qs)
      (bonds_all s rs qs (λ b. (c : ℕ) → c < size → nat_abs (at b.constant c) ≤ 47560000) (λ c l. omega arith) constants),
)
  where
    related : any s.bound (λ i. bad_relation size s.count (relation_at rs i) (get_or qs i [])) ≡ false
    related = (or_parts (ltb (length rs) 24 || ltb (length qs) 24) _ (or_parts (unfit_values size s.count s.d vs) _ e).1).1

    parts : (i : ℕ) → i < s.bound → (bad_coefs s.count (relation_at rs i).coefficients ≡ false) × (any size (λ c. above 47560000 (at (get_or qs i []) c)) ≡ false)
    parts i l = or_parts (bad_coefs s.count (relation_at rs i).coefficients) _ (any_false s.bound _ related i l)

    coefs : (i : ℕ) → i < s.bound → (p : ℕ) → p < s.count → nat_abs (at (take s.count (relation_at rs i).coefficients) p) ≤ 1000
    coefs i l p b = subst (λ (x : ℤ). nat_abs x ≤ 1000) (sym (get_or-take s.count (relation_at rs i).coefficients p (pos 0) b))
        (above_false 1000 (at (relation_at rs i).coefficients p) (any_false s.count _ (parts i l).0 p b))

    constants : (i : ℕ) → i < s.bound → (c : ℕ) → c < size → nat_abs (at (get_or qs i []) c) ≤ 47560000
    constants i l c b = above_false 47560000 (at (get_or qs i []) c) (any_false size _ (parts i l).1 c b)

-- the lists are long enough
pub record Long (s : Sheet) (vs : List Coords) (rs : List Relation) (qs : List Coords) : Type 0 where
  pub values_long : s.count ≤ length vs
  pub relations_long : 24 ≤ length rs
  pub constants_long : 24 ≤ length qs

pub long_lists : (size : ℕ) (s : Sheet) (vs : List Coords) (rs : List Relation) (qs : List Coords) → unfit size s vs rs qs ≡ false → Long s vs rs qs
long_lists size s vs rs qs e =
    let a = or_parts (unfit_values size s.count s.d vs) _ e in
    let b = or_parts (ltb (length rs) 24 || ltb (length qs) 24) _ a.1 in
    let c = or_parts (ltb (length rs) 24) _ b.0 in
    record {
      values_long = (fit_values size s.count s.d vs a.0).long;
      relations_long = ltb-false _ _ c.0;
      constants_long = ltb-false _ _ c.1;
    }
