-- The relations that count, taken one after the other.
use Rattle.std.proofs.Common.{◌≡◌, ℕ, zero, suc, ◌+◌, ◌<◌, ◌≤◌, Bool, true, false, cond, not, ◌&&◌, ltb, List, [], ◌∷◌, ◌++◌, map, length, get_or, take, drop, ℤ, pos, Ok, Err, sym, ap, ◌∙◌, not-suc-le-zero, arith}
use Rattle.std.proofs.lemmas.List.{append-nil, take_all, take-append-le, get_or-take, map_more, map_push, map-append, take-append-drop, length-map, length-append}
use Rattle.std.proofs.lemmas.Bool.{lt-ltb}
use Rattle.records.specs.declared.refusal.Refusal.TheVariants.{Crowded}
use Rattle.records.specs.declared.relation.Mark.TheVariants.{Idle}
use Rattle.records.specs.declared.relation.Relation.{Relation}
use Rattle.records.specs.declared.role.Role.{Role}
use Rattle.records.specs.Outcomes.{guard}
use Rattle.whole.specs.Tests.{nonzero}
use Rattle.whole.proofs.Tests.{any_ext}
use Rattle.rules.proofs.Counting.{counted-append}
use Rattle.rules.specs.Gripping.{role, is_held, counts, counted}
use Rattle.rules.specs.Sheets.{Bond, bond, no_bond, relation_at}
use Rattle.workings.specs.Chosen.{bare}

-- only the first n coefficients are read
pub counts-take : (n : ℕ) (roles : List Role) (cs : List ℤ) → counts n roles (take n cs) ≡ counts n roles cs
counts-take n roles cs = any_ext n _ _ (λ s l. ap (λ (z : ℤ). not (is_held (role roles s)) && nonzero z) (get_or-take n cs s (pos 0) l))

module _ (n : ℕ) (roles : List Role) where
  pub same_length : (bs : List Bond) (rows : List (List ℤ)) → map (take n) rows ≡ map (λ b. b.coefs) bs → length rows ≡ length bs
  same_length bs rows e = sym (length-map rows (take n)) ∙ ap length e ∙ length-map bs (λ (b : Bond). b.coefs)

  module _ (rs : List Relation) where
    -- those that count among the first k relations, and among the others
    parted : (k : ℕ) → counted n roles (bare n rs) ≡ counted n roles (bare n (take k rs)) ++ counted n roles (bare n (drop k rs))
    parted k =
        ap (λ xs. counted n roles (bare n xs)) (sym (take-append-drop k rs))
        ∙ ap (counted n roles) (map-append (λ (r : Relation). bond n r.coefficients []) (take k rs) (drop k rs))
        ∙ counted-append n roles (bare n (take k rs)) (bare n (drop k rs))

    -- the twelve that were chosen of the first k relations are the first twelve of all
    pub first_twelve : (k : ℕ) (rows : List (List ℤ)) → map (take n) rows ≡ map (λ b. b.coefs) (counted n roles (bare n (take k rs))) → length rows ≡ 12
        → map (take n) rows ≡ take 12 (map (λ b. b.coefs) (counted n roles (bare n rs)))
    first_twelve k rows so twelve =
        let long = length-map rows (take n) in
        sym (ap (λ (bs : List Bond). take 12 (map (λ (b : Bond). b.coefs) bs)) (parted k)
        ∙ ap (take 12) (map-append (λ (b : Bond). b.coefs) (counted n roles (bare n (take k rs))) (counted n roles (bare n (drop k rs))))
        ∙ ap (λ (xs : List (List ℤ)). take 12 (xs ++ map (λ (b : Bond). b.coefs) (counted n roles (bare n (drop k rs))))) (sym so)
        ∙ take-append-le 12 (map (take n) rows) (map (λ (b : Bond). b.coefs) (counted n roles (bare n (drop k rs)))) (omega arith)
        ∙ take_all 12 (map (take n) rows) (omega arith))

  module _ (rs : List Relation) (i : ℕ) (h : i < length rs) where
    next : Bond
    next = bond n (relation_at rs i).coefficients []

    counted_more : (b : Bool) → b ≡ counts n roles (relation_at rs i).coefficients → counted n roles (bare n (take (i + 1) rs)) ≡ counted n roles (bare n (take i rs)) ++ cond b (next ∷ []) []
    unfolding next
    counted_more b e =
        ap (counted n roles) (map_more (λ (r : Relation). bond n r.coefficients []) rs i (record { coefficients = []; mark = Idle }) h)
        ∙ counted-append n roles (bare n (take i rs)) (bond n (relation_at rs i).coefficients [] ∷ [])
        ∙ ap (λ (c : Bool). counted n roles (bare n (take i rs)) ++ cond c (bond n (relation_at rs i).coefficients [] ∷ []) []) (counts-take n roles (relation_at rs i).coefficients ∙ sym e)

    module _ (rows : List (List ℤ)) (so : map (take n) rows ≡ map (λ b. b.coefs) (counted n roles (bare n (take i rs)))) where
      pub chosen-left : false ≡ counts n roles (relation_at rs i).coefficients → map (take n) rows ≡ map (λ b. b.coefs) (counted n roles (bare n (take (i + 1) rs)))
      chosen-left e = so ∙ ap (map (λ (b : Bond). b.coefs)) (sym (counted_more false e ∙ append-nil (counted n roles (bare n (take i rs)))))

      pub chosen_more : true ≡ counts n roles (relation_at rs i).coefficients → map (take n) (rows ++ (relation_at rs i).coefficients ∷ []) ≡ map (λ b. b.coefs) (counted n roles (bare n (take (i + 1) rs)))
      unfolding next
      chosen_more e =
          map_push (take n) rows (relation_at rs i).coefficients
          ∙ ap (λ xs. xs ++ take n (relation_at rs i).coefficients ∷ []) so
          ∙ sym (ap (map (λ (b : Bond). b.coefs)) (counted_more true e) ∙ map_push (λ (b : Bond). b.coefs) (counted n roles (bare n (take i rs))) (bond n (relation_at rs i).coefficients []))

      pub crowded : true ≡ counts n roles (relation_at rs i).coefficients → length rows ≡ 12
          → Err Crowded ≡ guard (ltb 12 (length (counted n roles (bare n rs)))) Crowded (Ok (map (λ b. b.coefs) (counted n roles (bare n rs))))
      unfolding next
      crowded e twelve =
          ap (λ (b : Bool). guard b Crowded (Ok (map (λ (b : Bond). b.coefs) (counted n roles (bare n rs))))) (sym (lt-ltb 12 (length (counted n roles (bare n rs))) more))
        where
          front : length (counted n roles (bare n (take (i + 1) rs))) ≡ length (counted n roles (bare n (take i rs))) + 1
          front = ap length (counted_more true e) ∙ length-append (counted n roles (bare n (take i rs))) (bond n (relation_at rs i).coefficients [] ∷ [])

          more : 12 < length (counted n roles (bare n rs))
          more =
              let a = ap length (parted rs (i + 1)) ∙ length-append (counted n roles (bare n (take (i + 1) rs))) (counted n roles (bare n (drop (i + 1) rs))) in
              let b = same_length (counted n roles (bare n (take i rs))) rows so in
              let c = front in
              omega arith

-- what holds of each relation holds of each that counts
pub counted-each : (P : Bond → Type 0) (n : ℕ) (roles : List Role) (xs : List Bond) → ((i : ℕ) → i < length xs → P (get_or xs i no_bond)) → (i : ℕ) → i < length (counted n roles xs) → P (get_or (counted n roles xs) i no_bond)
counted-each P n roles [] h i l = absurd (not-suc-le-zero l)
counted-each P n roles (x ∷ xs) h i l = by (counts n roles x.coefs) i l (counted-each P n roles xs (λ j k. h (suc j) (omega arith)))
  where
    by : (b : Bool) (i : ℕ) → i < length (cond b (x ∷ counted n roles xs) (counted n roles xs)) → ((i : ℕ) → i < length (counted n roles xs) → P (get_or (counted n roles xs) i no_bond))
        → P (get_or (cond b (x ∷ counted n roles xs) (counted n roles xs)) i no_bond)
    by true zero k ih = h 0 (omega arith)
    by true (suc i) k ih = ih i (omega arith)
    by false i k ih = ih i k
