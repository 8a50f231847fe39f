-- Tests and counts of a list's elements, as tests and counts of its indices.
use Rattle.std.proofs.Common.{◌≡◌, ℕ, zero, suc, ◌+◌, ◌≤◌, Bool, true, false, ◌||◌, cond, List, [], ◌∷◌, length, map, take, slice_index_or, sym, refl, ap, ◌∙◌, ap₂, add-zero, not-suc-le-zero, arith}
use Rattle.std.specs.List.{list_any, count_by, zip, range_with_len}
use Rattle.std.proofs.lemmas.List.Sums.{sum_by-cons}
use Rattle.whole.specs.Tests.{any, tally}
use Rattle.whole.proofs.Tests.{none_any, any_ext}

or_assoc : (a b c : Bool) → ((a || b) || c) ≡ (a || (b || c))
or_assoc true b c = refl
or_assoc false b c = refl

-- the first index apart
any_front : (n : ℕ) (p : ℕ → Bool) → any (suc n) p ≡ (p 0 || any n (λ i. p (suc i)))
any_front zero p = or_false (p 0)
  where
    or_false : (b : Bool) → (false || b) ≡ (b || false)
    or_false true = refl
    or_false false = refl
any_front (suc n) p = ap (λ (b : Bool). b || p (suc n)) (any_front n p) ∙ or_assoc (p 0) (any n (λ i. p (suc i))) (p (suc n))

pub any_list : {X : Type 0} (p : X → Bool) (d : X) (xs : List X) → list_any p xs ≡ any (length xs) (λ s. p (slice_index_or xs s d))
any_list p d [] = refl
any_list p d (x ∷ xs) = ap (λ (b : Bool). p x || b) (any_list p d xs) ∙ sym (any_front (length xs) (λ s. p (slice_index_or (x ∷ xs) s d)))

-- the same of the first n, where those past the list's end fail
pub any_take : {X : Type 0} (p : X → Bool) (d : X) (n : ℕ) (xs : List X) → p d ≡ false → list_any p (take n xs) ≡ any n (λ s. p (slice_index_or xs s d))
any_take p d zero xs h = refl
any_take p d (suc n) [] h = sym (none_any (suc n) (λ s. p d) (λ i l. h))
any_take p d (suc n) (x ∷ xs) h = ap (λ (b : Bool). p x || b) (any_take p d n xs h) ∙ sym (any_front n (λ s. p (slice_index_or (x ∷ xs) s d)))

-- a test of pairs, where the pairs that lack a second fail
pub any_zip : {X Y : Type 0} (p : X → Y → Bool) (d : X) (e : Y) (xs : List X) (ys : List Y) → ((x : X) → p x e ≡ false) → list_any (λ q. p q.0 q.1) (zip xs ys) ≡ any (length xs) (λ s. p (slice_index_or xs s d) (slice_index_or ys s e))
any_zip p d e [] ys h = refl
any_zip p d e (x ∷ xs) [] h = sym (none_any (suc (length xs)) (λ s. p (slice_index_or (x ∷ xs) s d) e) (λ i l. h (slice_index_or (x ∷ xs) i d)))
any_zip p d e (x ∷ xs) (y ∷ ys) h = ap (λ (b : Bool). p x y || b) (any_zip p d e xs ys h) ∙ sym (any_front (length xs) (λ s. p (slice_index_or (x ∷ xs) s d) (slice_index_or (y ∷ ys) s e)))

-- the same where there is a second to each
pub any_zip_long : {X Y : Type 0} (p : X → Y → Bool) (d : X) (e : Y) (xs : List X) (ys : List Y) → length xs ≤ length ys → list_any (λ q. p q.0 q.1) (zip xs ys) ≡ any (length xs) (λ s. p (slice_index_or xs s d) (slice_index_or ys s e))
any_zip_long p d e [] ys h = refl
any_zip_long p d e (x ∷ xs) [] h = absurd (not-suc-le-zero h)
any_zip_long p d e (x ∷ xs) (y ∷ ys) h = ap (λ (b : Bool). p x y || b) (any_zip_long p d e xs ys (omega (arith, h))) ∙ sym (any_front (length xs) (λ s. p (slice_index_or (x ∷ xs) s d) (slice_index_or (y ∷ ys) s e)))

-- the first index apart
tally_front : (n : ℕ) (p : ℕ → Bool) → tally (suc n) p ≡ tally n (λ i. p (suc i)) + cond (p 0) 1 0
tally_front zero p = one (p 0)
  where
    one : (b : Bool) → elim b as (λ z. ℕ) [ true ↦ 1 | false ↦ 0 ] ≡ 0 + cond b 1 0
    one true = refl
    one false = refl
tally_front (suc n) p = ap (λ (t : ℕ). elim (p (suc n)) as (λ z. ℕ) [ true ↦ suc t | false ↦ t ]) (tally_front n p) ∙ step (p (suc n))
  where
    step : (b : Bool) → elim b as (λ z. ℕ) [ true ↦ suc (tally n (λ i. p (suc i)) + cond (p 0) 1 0) | false ↦ tally n (λ i. p (suc i)) + cond (p 0) 1 0 ] ≡ elim b as (λ z. ℕ) [ true ↦ suc (tally n (λ i. p (suc i))) | false ↦ tally n (λ i. p (suc i)) ] + cond (p 0) 1 0
    step true = omega arith
    step false = refl

pub tally_list : {X : Type 0} (p : X → Bool) (d : X) (xs : List X) → count_by p xs ≡ tally (length xs) (λ s. p (slice_index_or xs s d))
tally_list p d [] = refl
tally_list p d (x ∷ xs) =
    let step : count_by p (x ∷ xs) ≡ cond (p x) 1 0 + count_by p xs = sum_by-cons (λ y. cond (p y) 1 0) x xs in
    let front : tally (suc (length xs)) (λ s. p (slice_index_or (x ∷ xs) s d)) ≡ tally (length xs) (λ s. p (slice_index_or xs s d)) + cond (p x) 1 0 = tally_front (length xs) (λ s. p (slice_index_or (x ∷ xs) s d)) in
    let rest = tally_list p d xs in
    step ∙ omega (arith, rest) ∙ sym front

-- a test of each element's image
pub any_map : {X Y : Type 0} (f : X → Y) (p : Y → Bool) (d : Y) (xs : List X) → list_any (λ x. p (f x)) xs ≡ any (length xs) (λ s. p (slice_index_or (map f xs) s d))
any_map f p d [] = refl
any_map f p d (x ∷ xs) = ap (λ (b : Bool). p (f x) || b) (any_map f p d xs) ∙ sym (any_front (length xs) (λ s. p (slice_index_or (map f (x ∷ xs)) s d)))

-- a test of the numbers of a range
pub any_range : (p : ℕ → Bool) (a n : ℕ) → list_any p (range_with_len a n) ≡ any n (λ i. p (a + i))
any_range p a zero = refl
any_range p a (suc n) =
    ap₂ (λ (x y : Bool). x || y) (ap p (sym (add-zero a))) (any_range p (a + 1) n ∙ any_ext n (λ i. p (a + 1 + i)) (λ i. p (a + suc i)) (λ i l. ap p (step i)))
    ∙ sym (any_front n (λ i. p (a + i)))
  where
    step : (i : ℕ) → a + 1 + i ≡ a + suc i
    step i = omega arith

-- a test of pairs of the first n elements, each second by its image
pub any_zip_take : {X Y Z : Type 0} (f : Y → Z) (p : X → Z → Bool) (d : X) (e : Z) (n : ℕ) (xs : List X) (ys : List Y) → n ≤ length xs → n ≤ length ys
    → list_any (λ q. p q.0 (f q.1)) (zip (take n xs) ys) ≡ any n (λ s. p (slice_index_or xs s d) (slice_index_or (map f ys) s e))
any_zip_take f p d e zero xs ys h l = refl
any_zip_take f p d e (suc n) [] ys h l = absurd (not-suc-le-zero h)
any_zip_take f p d e (suc n) (x ∷ xs) [] h l = absurd (not-suc-le-zero l)
any_zip_take f p d e (suc n) (x ∷ xs) (y ∷ ys) h l =
    ap (λ (b : Bool). p x (f y) || b) (any_zip_take f p d e n xs ys (omega (arith, h)) (omega (arith, l)))
    ∙ sym (any_front n (λ s. p (slice_index_or (x ∷ xs) s d) (slice_index_or (map f (y ∷ ys)) s e)))
