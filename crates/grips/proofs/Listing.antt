-- The list of spare relations, one number after the other.
use Rattle.std.proofs.Common.{◌≡◌, ℕ, zero, suc, ◌+◌, ◌<◌, ◌≤◌, Bool, true, false, cond, List, [], ◌∷◌, ◌++◌, length, get_or, take, drop, set, ℤ, sym, refl, ap, ◌∙◌, ap₂, zero-add, add-one, arith, length-append}
use native.Mathlib.Decide.{ℕ_discrete}
use lib.Seq.{paste, take-append-le, get_or_at}
use Rattle.std.proofs.lemmas.List.Edits.{paste_more}
use Rattle.std.proofs.lemmas.List.{append-nil, get_or-take}
use Rattle.records.specs.declared.relation.Relation.{Relation}
use Rattle.rules.specs.Values.{written}
use Rattle.records.specs.declared.relation.Mark.TheVariants.{Idle, Needed, Spare}
use Rattle.records.specs.declared.role.Role.{Role}
use Rattle.linear.specs.Elimination.{Grid}
use Rattle.rules.specs.Sheets.{Sheet, Bond, bonds, no_bond, relation_at}
use Rattle.rules.specs.Gripping.{counts, is_needed, row_of, marked, is_spare, spares}
use Rattle.rules.proofs.Bonds.{none, marked-at}
use Rattle.grips.specs.Spares.{spare_marks}

module _ (rs : List Relation) where
  pub spare_more : (i : ℕ) → is_spare (relation_at rs i).mark ≡ true → spare_marks rs (i + 1) ≡ spare_marks rs i ++ (i ∷ [])
  spare_more i e = ap (spare_marks rs) (add-one i) ∙ ap (λ (b : Bool). spare_marks rs i ++ cond b (i ∷ []) []) e

  pub spare-same : (i : ℕ) → is_spare (relation_at rs i).mark ≡ false → spare_marks rs (i + 1) ≡ spare_marks rs i
  spare-same i e = ap (spare_marks rs) (add-one i) ∙ ap (λ (b : Bool). spare_marks rs i ++ cond b (i ∷ []) []) e ∙ append-nil (spare_marks rs i)

  -- only the relations below k are read
  pub spare_marks-front : (b k : ℕ) → k ≤ b → spare_marks (take b rs) k ≡ spare_marks rs k
  spare_marks-front b zero h = refl
  spare_marks-front b (suc k) h = λ j. spare_marks-front b k (omega arith) j ++ cond (is_spare (get_or-take b rs k none (omega arith) j).mark) (k ∷ []) []

  -- further on there are no fewer
  pub grows : (k b : ℕ) → k ≤ b → length (spare_marks rs k) ≤ length (spare_marks rs b)
  grows k zero h = let e : k ≡ 0 = omega arith in ap-≤ e
    where
      ap-≤ : k ≡ 0 → length (spare_marks rs k) ≤ length (spare_marks rs 0)
      ap-≤ e = let p = ap (λ (j : ℕ). length (spare_marks rs j)) e in omega (arith, p)
  grows k (suc b) h = by (grows k b) (ℕ_discrete k (suc b))
    where
      more : length (spare_marks rs (suc b)) ≡ length (spare_marks rs b) + length (cond (is_spare (relation_at rs b).mark) (b ∷ []) [])
      more = length-append (spare_marks rs b) (cond (is_spare (relation_at rs b).mark) (b ∷ []) [])

      by : (k ≤ b → length (spare_marks rs k) ≤ length (spare_marks rs b)) → Dec (k ≡ suc b) → length (spare_marks rs k) ≤ length (spare_marks rs (suc b))
      by ih (yes e) = let p = ap (λ (j : ℕ). length (spare_marks rs j)) e in omega (arith, p)
      by ih (no d) = let a = ih (omega arith) in omega (arith, more)

-- one more at the end of what was written
pub push_written : {X : Type 0} (xs old : List X) (x : X) (m : ℕ) → m ≡ length xs → m < length old → set (written m xs old) m x ≡ written (m + 1) (xs ++ (x ∷ [])) old
push_written {X = X} xs old x m e h =
    let l = length-append xs (x ∷ []) in
    let z = zero-add m in
    ap (λ (r : List X). set (r ++ drop (0 + m) old) m x) (sym (take-append-le m xs (x ∷ []) (omega arith)))
    ∙ ap₂ (λ (j : ℕ) (y : X). set (paste old 0 (xs ++ (x ∷ [])) m) j y) (sym z) (sym (get_or_at xs x [] x m (sym e)))
    ∙ paste_more old 0 (xs ++ (x ∷ [])) m x (omega arith) (omega (arith, l))

-- the relations' marks give the numbers of the definition
module _ (s : Sheet) (roles : List Role) (rs : List Relation) (qs : List (List ℤ)) (t : Grid) where
  pub spares-marked : (k : ℕ) → k ≤ s.bound → spare_marks (marked s.count roles (bonds s rs qs) t rs) k ≡ spares s.count roles (bonds s rs qs) t k
  spares-marked zero h = refl
  spares-marked (suc k) h = λ d. spares-marked k (omega arith) d ++ cond (is_spare (marked-at s rs qs roles t k (omega arith) d).mark) (k ∷ []) []

-- a spare relation counts, so there are no more of them than of those
module _ (n : ℕ) (roles : List Role) where
  pub spares-few : (bs : List Bond) (t : Grid) (k : ℕ) → length (spares n roles bs t k) ≤ row_of n roles bs k
  spares-few bs t zero = omega arith
  spares-few bs t (suc k) = by (counts n roles (get_or bs k no_bond).coefs) (is_needed t (row_of n roles bs k)) (spares-few bs t k)
    where
      by : (c a : Bool) → length (spares n roles bs t k) ≤ row_of n roles bs k → length (spares n roles bs t k ++ cond (is_spare (cond c (cond a Needed Spare) Idle)) (k ∷ []) []) ≤ elim c as (λ z. ℕ) [ true ↦ suc (row_of n roles bs k) | false ↦ row_of n roles bs k ]
      by true true ih = let l = length-append (spares n roles bs t k) [] in omega (arith, l)
      by true false ih = let l = length-append (spares n roles bs t k) (k ∷ []) in omega (arith, l)
      by false a ih = let l = length-append (spares n roles bs t k) [] in omega (arith, l)
