-- What it means that a sheet and its lists fit.
use Rattle.std.proofs.Common.{◌≡◌, ℕ, ◌≤◌, false, ◌||◌, ltb, List, map, length, ℤ, arith}
use lib.Seq.{paste}
use Rattle.std.proofs.lemmas.List.{length-map, map-append, take-map, drop-map}
use Rattle.std.proofs.lemmas.Bool.{ltb-false, or_parts}
use Rattle.records.specs.declared.relation.Relation.{Relation}
use Rattle.rules.specs.Values.{Coords}
pub use Rattle.rules.proofs.Fit.{FitValues, fit_values}
use Rattle.rules.specs.Sheets.{Sheet, unfit_values, unfit_relations, unfit}

pub record FitRelations (size : ℕ) (s : Sheet) (rs : List Relation) (qs : List Coords) : Type 0 where
  pub relations_long : 24 ≤ length rs
  pub constants_long : 24 ≤ length qs

pub fit_relations : (size : ℕ) (s : Sheet) (rs : List Relation) (qs : List Coords) → unfit_relations size s rs qs ≡ false → FitRelations size s rs qs
fit_relations size s rs qs e =
    let a = or_parts (ltb (length rs) 24 || ltb (length qs) 24) _ e in
    let b = or_parts (ltb (length rs) 24) _ a.0 in
    record {
      relations_long = ltb-false _ _ b.0;
      constants_long = ltb-false _ _ b.1;
    }

pub fit : (size : ℕ) (s : Sheet) (vs : List Coords) (rs : List Relation) (qs : List Coords) → unfit size s vs rs qs ≡ false → FitValues size s.count s.d vs × FitRelations size s rs qs
fit size s vs rs qs e =
    let a = or_parts (unfit_values size s.count s.d vs) _ e in
    (fit_values size s.count s.d vs a.0, fit_relations size s rs qs a.1)

-- the lengths of lists of values of a kind
pub record Long {K : Type 0} (s : Sheet) (vs : List K) (rs : List Relation) (qs : List K) : Type 0 where
  pub values_long : s.count ≤ length vs
  pub relations_long : 24 ≤ length rs
  pub constants_long : 24 ≤ length qs

pub long : {K : Type 0} (f : K → List ℤ) (size : ℕ) (s : Sheet) (vs : List K) (rs : List Relation) (qs : List K) → unfit size s (map f vs) rs (map f qs) ≡ false → Long s vs rs qs
long f size s vs rs qs e =
    let a = fit size s (map f vs) rs (map f qs) e in
    let v = length-map vs f in
    let q = length-map qs f in
    record {
      values_long = omega (arith, a.0.long);
      relations_long = a.1.relations_long;
      constants_long = omega (arith, a.1.constants_long);
    }

-- values moved by a map
pub map-paste : {X Y : Type 0} (f : X → Y) (xs : List X) (i : ℕ) (ys : List X) (n : ℕ) → map f (paste xs i ys n) ≡ paste (map f xs) i (map f ys) n
map-paste f xs i ys n = simp (map-append, take-map, drop-map)
