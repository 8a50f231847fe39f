-- Values written one place after the other.
use Rattle.std.proofs.Common.{◌≡◌, ℕ, ◌+◌, ◌<◌, ◌≤◌, List, [], ◌∷◌, ◌++◌, map, length, take, drop, get_or, set, replicate, ℤ, pos, sym, refl, ap, ◌∙◌, ap₂, zero-add, arith, append-nil}
use lib.Seq.{paste}
use Rattle.std.specs.List.{FoldsTo}
use Rattle.std.proofs.lemmas.List.{map-set, map-append, drop-map, length-map, length-take-le, take_all, drop_all}
use Rattle.std.proofs.lemmas.List.Edits.{paste_more}
use Rattle.records.specs.declared.relation.Mark.TheVariants.{Idle}
use Rattle.rules.specs.Limits.{most_parameters}
use Rattle.kinds.specs.Lists.{tab_same}
use Rattle.rules.specs.Values.{zeros, written}
use Rattle.rules.specs.Calls.{recorded}

-- a list of values with place s written too
pub written_more : {K : Type 0} (f : K → List ℤ) (start xs : List K) (new : List (List ℤ)) (s : ℕ) (v : K) → s < length new → s < length start → f v ≡ get_or new s []
    → map f xs ≡ written s new (map f start) → map f (set xs s v) ≡ written (s + 1) new (map f start)
written_more f start xs new s v long room e p =
    let n = length-map start f in
    let m = zero-add s in
    let q : 0 + s < length (map f start) = omega arith in
    map-set f xs s v ∙ ap₂ (λ (l : List (List ℤ)) (x : List ℤ). set l s x) p e
    ∙ ap (λ (j : ℕ). set (paste (map f start) 0 new s) j (get_or new s [])) (sym m) ∙ paste_more (map f start) 0 new s [] q long

-- a list of values that each were made zero
pub filled : {K P : Type 0} (f : K → List ℤ) (size : ℕ) (made : P → K → P → Type 0) → ((p : P) (x : K) (q : P) → made p x q → f x ≡ replicate size (pos 0)) → (p : P) (xs : List K) (q : P) → FoldsTo made p xs q → map f xs ≡ zeros (length xs) size
filled f size made h p [] q e = refl
filled f size made h p (x ∷ xs) q e = ap₂ (λ (u : List ℤ) (us : List (List ℤ)). u ∷ us) (h p x e.0 e.1 ∙ sym (tab_same size (pos 0))) (filled f size made h e.0 xs q e.2)

-- all places are written
pub written_all : {X : Type 0} (n : ℕ) (new old : List X) → length new ≤ n → length old ≤ n → written n new old ≡ new
written_all n new old h k = ap₂ (λ (a b : List _). a ++ b) (take_all n new h) (drop_all (0 + n) old (omega arith)) ∙ append-nil new

-- the first n places are written as a part of their own
pub written_front : {K : Type 0} (f : K → List ℤ) (n : ℕ) (zs : List (List ℤ)) (new old : List K) → map f new ≡ zs → length zs ≤ n → map f (new ++ drop n old) ≡ written n zs (map f old)
written_front f n zs new old e h =
    map-append f new (drop n old)
    ∙ ap₂ (λ (a b : List (List ℤ)). a ++ b) (e ∙ sym (take_all n zs h)) (sym (drop-map f n old) ∙ ap (λ (j : ℕ). drop j (map f old)) (sym (zero-add n)))

-- a relation recorded from its first n coefficients
pub recorded_front : (n : ℕ) (cs : List ℤ) → n ≤ length cs → recorded (length (take n cs)) (take n cs) ≡ recorded n cs
recorded_front n cs h =
    let l = length-take-le n cs h in
    ap (λ (k : ℕ). recorded k (take n cs)) l
    ∙ ap (λ (xs : List ℤ). record { coefficients = xs ++ drop (0 + n) (replicate most_parameters (pos 0)); mark = Idle }) (take_all n (take n cs) (omega (arith, l)))
