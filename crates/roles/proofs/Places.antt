-- The numbers of the relations that count, one relation further.
use Rattle.std.proofs.Common.{◌≡◌, ℕ, ◌+◌, ◌<◌, ◌≤◌, min, Bool, true, false, cond, List, [], ◌∷◌, ◌++◌, length, drop, set, replicate, sym, refl, ap, ◌∙◌, ap₂, zero-add, add-one, arith, length-append}
use lib.Seq.{paste, take-append-le, get_or_at}
use Rattle.std.proofs.lemmas.List.Edits.{paste_more}
use Rattle.records.specs.declared.relation.Relation.{Relation}
use Rattle.records.specs.declared.role.Role.{Role}
use Rattle.rules.specs.Values.{written}
use Rattle.roles.specs.Places.{counting, places}

module _ (roles : List Role) (rs : List Relation) (k : ℕ) where
  pub places_more : counting roles rs k ≡ true → places roles rs (k + 1) ≡ places roles rs k ++ (k ∷ [])
  places_more e = ap (places roles rs) (add-one k) ∙ ap (λ (b : Bool). places roles rs k ++ cond b (k ∷ []) []) e

  pub places_same : counting roles rs k ≡ false → places roles rs (k + 1) ≡ places roles rs k
  places_same e = ap (places roles rs) (add-one k) ∙ ap (λ (b : Bool). places roles rs k ++ cond b (k ∷ []) []) e ∙ nil (places roles rs k)
    where
      nil : (xs : List ℕ) → xs ++ [] ≡ xs
      nil [] = refl
      nil (x ∷ xs) = ap (λ (l : List ℕ). x ∷ l) (nil xs)

  pub length_more : counting roles rs k ≡ true → (m : ℕ) → m ≡ length (places roles rs k) → m + 1 ≡ length (places roles rs (k + 1))
  length_more e m h = let a = ap length (places_more e) in let b = length-append (places roles rs k) (k ∷ []) in omega (arith, a, b)

-- one number more in the list's first places, or a full list as it was
pub rows_more : (xs rows : List ℕ) (x m : ℕ) → m ≡ length xs → m < 12 → rows ≡ written (min m 12) xs (replicate 12 0) → set rows m x ≡ written (min (m + 1) 12) (xs ++ (x ∷ [])) (replicate 12 0)
rows_more xs rows x m e h p =
    let a : min m 12 ≡ m = omega arith in
    let b : min (m + 1) 12 ≡ m + 1 = omega arith in
    let l = length-append xs (x ∷ []) in
    let z = zero-add m in
    let front = sym (take-append-le m xs (x ∷ []) (omega arith)) in
    ap (λ (r : List ℕ). set r m x) (p ∙ ap (λ (j : ℕ). paste (replicate 12 0) 0 xs j) a ∙ ap (λ (l : List ℕ). l ++ drop (0 + m) (replicate 12 0)) front)
    ∙ ap₂ (λ (j y : ℕ). set (paste (replicate 12 0) 0 (xs ++ (x ∷ [])) m) j y) (sym z) (sym (get_or_at xs x [] 0 m (sym e)))
    ∙ paste_more (replicate 12 0) 0 (xs ++ (x ∷ [])) m 0 (omega arith) (omega (arith, l))
    ∙ ap (λ (j : ℕ). paste (replicate 12 0) 0 (xs ++ (x ∷ [])) j) (sym b)

pub rows_full : (xs rows : List ℕ) (x m : ℕ) → m ≡ length xs → 12 ≤ m → rows ≡ written (min m 12) xs (replicate 12 0) → rows ≡ written (min (m + 1) 12) (xs ++ (x ∷ [])) (replicate 12 0)
rows_full xs rows x m e h p =
    let a : min m 12 ≡ 12 = omega arith in
    let b : min (m + 1) 12 ≡ 12 = omega arith in
    p ∙ ap (λ (j : ℕ). paste (replicate 12 0) 0 xs j) a ∙ ap (λ (l : List ℕ). l ++ drop (0 + 12) (replicate 12 0)) (sym (take-append-le 12 xs (x ∷ []) (omega arith))) ∙ ap (λ (j : ℕ). paste (replicate 12 0) 0 (xs ++ (x ∷ [])) j) (sym b)
