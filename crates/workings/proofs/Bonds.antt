-- A grip reads the coefficients of the bound relations, and not their constants.
use Rattle.std.proofs.Common.{◌≡◌, ℕ, zero, suc, ◌<◌, ◌≤◌, Bool, true, false, cond, ◌||◌, ltb, List, [], ◌∷◌, map, length, get_or, take, ℤ, Ok, Result, sym, refl, ap, ◌∙◌, arith}
use Rattle.std.proofs.lemmas.List.{get_or-take, length-map, length-take-le}
use Rattle.std.proofs.lemmas.Simd.{map-map}
use Rattle.std.proofs.lemmas.Bool.{or_from, or_parts, le-ltb}
use Rattle.records.specs.declared.refusal.Refusal.{Refusal}
use Rattle.records.specs.declared.refusal.Refusal.TheVariants.{Roles, Crowded}
use Rattle.records.specs.declared.relation.Relation.{Relation}
use Rattle.records.specs.declared.role.Role.{Role}
use Rattle.records.specs.Outcomes.{guard, onward}
use Rattle.whole.specs.Lists.{tab, at}
use Rattle.whole.proofs.Lists.{map-tab, tab_ext, tab_of}
use Rattle.whole.specs.Tests.{any}
use Rattle.whole.proofs.Tests.{any_false, none_any}
use Rattle.linear.specs.Elimination.{start, eliminated}
use Rattle.rules.specs.Calls.{grip_on}
use Rattle.rules.specs.Gripping.{role, share, shares, bad_roles, counts, counted, coef}
use Rattle.rules.specs.Sheets as rules
use Rattle.rules.specs.Sheets.{Bond, bond, bonds, no_bond, relation_at, bad_coefs, bad_constant, bad_relation, unfit_relations}
use Rattle.rules.specs.Values.{Coords}
use Rattle.rules.proofs.Bonds.{none}
use Rattle.workings.specs.Chosen.{bare, unready}

module _ (n : ℕ) (roles : List Role) where
  -- the lists of coefficients that count
  pick : List (List ℤ) → List (List ℤ)
  pick [] = []
  pick (cs ∷ css) = cond (counts n roles cs) (cs ∷ pick css) (pick css)

  counted_pick : (bs : List Bond) → map (λ b. b.coefs) (counted n roles bs) ≡ pick (map (λ b. b.coefs) bs)
  unfolding pick
  counted_pick [] = refl
  counted_pick (b ∷ bs) = by (counts n roles b.coefs) (counted_pick bs)
    where
      by : (c : Bool) → map (λ b. b.coefs) (counted n roles bs) ≡ pick (map (λ b. b.coefs) bs)
          → map (λ (b : Bond). b.coefs) (cond c (b ∷ counted n roles bs) (counted n roles bs)) ≡ cond c (b.coefs ∷ pick (map (λ b. b.coefs) bs)) (pick (map (λ b. b.coefs) bs))
      by true e = ap (λ css. b.coefs ∷ css) e
      by false e = e

  coef-map : (bs : List Bond) (i s : ℕ) → coef bs i s ≡ at (get_or (map (λ b. b.coefs) bs) i []) s
  coef-map [] i s = refl
  coef-map (b ∷ bs) zero s = refl
  coef-map (b ∷ bs) (suc i) s = coef-map bs i s

  made_of : List (List ℤ) → Result rules.Workings Refusal
  made_of css = guard (bad_roles n roles) Roles (guard (ltb 12 (length css)) Crowded
      (onward (eliminated (length css) (length css) (start n (length css) (λ s. share (role roles s)) (λ i s. at (get_or css i []) s)))
      (λ t. Ok (record { count = n; m = length css; table = t; roles = roles; shares = shares n roles }))))

  grip_on_made : (bs : List Bond) → grip_on n roles bs ≡ made_of (map (λ b. b.coefs) (counted n roles bs))
  unfolding made_of
  grip_on_made bs = λ j.
      guard (bad_roles n roles) Roles (guard (ltb 12 (many j)) Crowded
      (onward (eliminated (many j) (many j) (start n (many j) (λ s. share (role roles s)) (λ i s. coef-map (counted n roles bs) i s j)))
      (λ t. Ok (record { count = n; m = many j; table = t; roles = roles; shares = shares n roles }))))
    where
      many : length (counted n roles bs) ≡ length (map (λ (b : Bond). b.coefs) (counted n roles bs))
      many = sym (length-map (counted n roles bs) (λ (b : Bond). b.coefs))

  -- relations with the same coefficients are gripped alike
  pub grip_on-same : (bs bs' : List Bond) → map (λ b. b.coefs) bs ≡ map (λ b. b.coefs) bs' → grip_on n roles bs ≡ grip_on n roles bs'
  grip_on-same bs bs' e = grip_on_made bs ∙ ap made_of (counted_pick bs ∙ ap pick e ∙ sym (counted_pick bs')) ∙ sym (grip_on_made bs')

-- a relation without its constant
abbrev pub strip : Bond → Bond
strip b = record { coefs = b.coefs; constant = [] }

take-tab : {X : Type 0} (xs : List X) (z : X) (k : ℕ) → k ≤ length xs → take k xs ≡ tab k (λ i. get_or xs i z)
take-tab {X = X} xs z k h =
    sym (tab_of (take k xs) z) ∙ ap (λ (m : ℕ). tab m (λ i. get_or (take k xs) i z)) (length-take-le k xs h) ∙ tab_ext k (λ i. get_or (take k xs) i z) (λ i. get_or xs i z) (λ i l. get_or-take k xs i z l)

pub bare_strip : (s : rules.Sheet) (rs : List Relation) (qs : List Coords) → s.bound ≤ length rs → bare s.count (take s.bound rs) ≡ map strip (bonds s rs qs)
bare_strip s rs qs h =
    ap (bare s.count) (take-tab rs none s.bound h)
    ∙ map-tab s.bound (relation_at rs) (λ r. bond s.count r.coefficients [])
    ∙ sym (map-tab s.bound (λ i. bond s.count (relation_at rs i).coefficients (get_or qs i [])) strip)

-- the bound relations of a sheet
pub grip_on-bonds : (s : rules.Sheet) (roles : List Role) (rs : List Relation) (qs : List Coords) → s.bound ≤ length rs
    → grip_on s.count roles (bonds s rs qs) ≡ grip_on s.count roles (bare s.count (take s.bound rs))
grip_on-bonds s roles rs qs h = grip_on-same s.count roles (bonds s rs qs) (bare s.count (take s.bound rs))
    (sym (map-map (λ (b : Bond). b.coefs) strip (bonds s rs qs)) ∙ ap (map (λ (b : Bond). b.coefs)) (sym (bare_strip s rs qs h)))

-- relations that are not unfit are ready to be gripped
pub ready_from : (size : ℕ) (s : rules.Sheet) (rs : List Relation) (qs : List Coords) (roles : List Role) → unfit_relations size s rs qs ≡ false
    → s.bound ≤ length rs → length roles ≡ s.count → s.count ≤ 48 → unready (take s.bound rs) roles ≡ false
ready_from size s rs qs roles fit h same few =
    or_from (ltb 48 (length roles)) _ (le-ltb 48 (length roles) (omega arith))
    (none_any (length (take s.bound rs)) _ (λ i l. let k : i < s.bound = let e = length-take-le s.bound rs h in omega arith in
    (λ j. bad_coefs (same j) (get_or-take s.bound rs i none k j).coefficients) ∙ fine i k))
  where
    fine : (i : ℕ) → i < s.bound → bad_coefs s.count (relation_at rs i).coefficients ≡ false
    fine i k = (or_parts (bad_coefs s.count (relation_at rs i).coefficients) (bad_constant size (get_or qs i []))
        (any_false s.bound (λ i. bad_relation size s.count (relation_at rs i) (get_or qs i [])) (or_parts (ltb (length rs) 24 || ltb (length qs) 24) (any s.bound (λ i. bad_relation size s.count (relation_at rs i) (get_or qs i []))) fit).1 i k)).0
