-- The relations that count are those with the numbers that count.
use Rattle.std.proofs.Common.{◌≡◌, ℕ, zero, suc, ◌<◌, ◌≤◌, Bool, true, false, cond, List, [], ◌∷◌, ◌++◌, map, length, get_or, take, sym, refl, ap, ◌∙◌, subst, ap₂, arith, get_or-take}
use Rattle.std.proofs.lemmas.List.{map-append}
use Rattle.records.specs.declared.relation.Relation.{Relation}
use Rattle.records.specs.declared.relation.Mark.TheVariants.{Idle}
use Rattle.records.specs.declared.role.Role.{Role}
use Rattle.whole.specs.Lists.{tab}
use Rattle.rules.specs.Values.{Coords}
use Rattle.rules.specs.Sheets.{Sheet, Bond, bond, bonds, relation_at}
use Rattle.rules.specs.Gripping.{counts, counted}
use Rattle.rules.proofs.Counting.{counted-append}
use Rattle.roles.specs.Places.{counting, places}
use Rattle.workings.proofs.Counting.{counts-take}
use Rattle.residuals.specs.Rows.{chosen}

tab_push : {X : Type 0} (k : ℕ) (f : ℕ → X) → tab (suc k) f ≡ tab k f ++ (f k ∷ [])
tab_push zero f = refl
tab_push (suc k) f = ap (λ (xs : List _). f 0 ∷ xs) (tab_push k (λ i. f (suc i)))

module _ (roles : List Role) (rs : List Relation) (qs : List Coords) (b : ℕ) where
  f : ℕ → Bond
  f i = bond (length roles) (relation_at rs i).coefficients (get_or qs i [])

  same : (k : ℕ) → k ≤ b → counted (length roles) roles (tab k f) ≡ map f (places roles (take b rs) k)
  unfolding f
  same zero h = refl
  same (suc k) h =
      ap (counted (length roles) roles) (tab_push k f) ∙ counted-append (length roles) roles (tab k f) (f k ∷ [])
      ∙ ap₂ (λ (x : List Bond) (y : Bool). x ++ cond y (f k ∷ []) []) (same k (omega arith)) test
      ∙ sym (map-append f (places roles (take b rs) k) (cond (counting roles (take b rs) k) (k ∷ []) []) ∙ ap (λ (x : List Bond). map f (places roles (take b rs) k) ++ x) (by (counting roles (take b rs) k)))
    where
      test : counts (length roles) roles (f k).coefs ≡ counting roles (take b rs) k
      test = counts-take (length roles) roles (relation_at rs k).coefficients ∙ ap (λ (r : Relation). counts (length roles) roles r.coefficients) (sym (get_or-take b rs k (record { coefficients = []; mark = Idle }) (omega arith)))

      by : (y : Bool) → map f (cond y (k ∷ []) []) ≡ cond y (f k ∷ []) []
      by true = refl
      by false = refl

  places_below : (k : ℕ) (i : ℕ) → i < length (places roles (take b rs) k) → get_or (places roles (take b rs) k) i 0 < k
  places_below zero i h = absurd (omega arith)
  places_below (suc k) i h = by (counting roles (take b rs) k) (places_below k) h
    where
      last : (xs : List ℕ) → ((i : ℕ) → i < length xs → get_or xs i 0 < k) → (i : ℕ) → i < length (xs ++ (k ∷ [])) → get_or (xs ++ (k ∷ [])) i 0 < suc k
      last [] p zero q = omega arith
      last [] p (suc i) q = absurd (omega arith)
      last (x ∷ xs) p zero q = let a = p 0 (omega arith) in omega arith
      last (x ∷ xs) p (suc i) q = last xs (λ j r. p (suc j) (omega arith)) i (omega arith)

      nil : (xs : List ℕ) → ((i : ℕ) → i < length xs → get_or xs i 0 < k) → (i : ℕ) → i < length (xs ++ []) → get_or (xs ++ []) i 0 < suc k
      nil [] p i q = absurd (omega arith)
      nil (x ∷ xs) p zero q = let a = p 0 (omega arith) in omega arith
      nil (x ∷ xs) p (suc i) q = nil xs (λ j r. p (suc j) (omega arith)) i (omega arith)

      by : (y : Bool) → ((i : ℕ) → i < length (places roles (take b rs) k) → get_or (places roles (take b rs) k) i 0 < k)
          → i < length (places roles (take b rs) k ++ cond y (k ∷ []) []) → get_or (places roles (take b rs) k ++ cond y (k ∷ []) []) i 0 < suc k
      by true ih q = last (places roles (take b rs) k) ih i q
      by false ih q = nil (places roles (take b rs) k) ih i q

pub counted-chosen : (n : ℕ) (roles : List Role) (s : Sheet) (rs : List Relation) (qs : List Coords) → length roles ≡ n → s.count ≡ n
    → counted n roles (bonds s rs qs) ≡ chosen n rs qs (places roles (take s.bound rs) s.bound)
unfolding f
counted-chosen n roles s rs qs e c =
    subst (λ (k : ℕ). counted k roles (tab s.bound (λ i. bond s.count (relation_at rs i).coefficients (get_or qs i []))) ≡ chosen k rs qs (places roles (take s.bound rs) s.bound)) e
    (ap (λ (k : ℕ). counted (length roles) roles (tab s.bound (λ i. bond k (relation_at rs i).coefficients (get_or qs i [])))) (c ∙ sym e) ∙ same roles rs qs s.bound s.bound (omega arith))

pub below_bound : (roles : List Role) (rs : List Relation) (qs : List Coords) (b i : ℕ) → i < length (places roles (take b rs) b) → get_or (places roles (take b rs) b) i 0 < b
below_bound roles rs qs b i h = places_below roles rs qs b b i h
