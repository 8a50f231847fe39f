-- Lists by index: what stands at each place, and how long they are.
use Rattle.std.proofs.Common.{◌≡◌, ℕ, zero, suc, ◌<◌, List, [], ◌∷◌, map, length, get_or, replicate, ℤ, pos, sym, refl, ap, suc-le-suc, zero-le, le_of_suc-le-suc, not-suc-le-zero}
use Rattle.whole.specs.Lists.{tab, at}

pub tab-length {ℓ} : {X : Type ℓ} (n : ℕ) (f : ℕ → X) → length (tab n f) ≡ n
tab-length zero f = refl
tab-length (suc n) f = ap suc (tab-length n (λ i. f (suc i)))

pub get_or-tab : {X : Type 0} (n : ℕ) (f : ℕ → X) (d : X) (i : ℕ) → i < n → get_or (tab n f) i d ≡ f i
get_or-tab zero f d i l = absurd (not-suc-le-zero l)
get_or-tab (suc n) f d zero l = refl
get_or-tab (suc n) f d (suc i) l = get_or-tab n (λ j. f (suc j)) d i (le_of_suc-le-suc l)

pub at-tab : (n : ℕ) (f : ℕ → ℤ) (i : ℕ) → i < n → at (tab n f) i ≡ f i
at-tab n f i l = get_or-tab n f (pos 0) i l

-- equal at each place: equal
pub tab_ext {ℓ} : {X : Type ℓ} (n : ℕ) (f g : ℕ → X) → ((i : ℕ) → i < n → f i ≡ g i) → tab n f ≡ tab n g
tab_ext zero f g h = refl
tab_ext (suc n) f g h = λ t. h 0 (suc-le-suc zero-le) t ∷ tab_ext n (λ i. f (suc i)) (λ i. g (suc i)) (λ i l. h (suc i) (suc-le-suc l)) t

-- a list is the list of what stands at its places
pub tab_of : {X : Type 0} (xs : List X) (d : X) → tab (length xs) (λ i. get_or xs i d) ≡ xs
tab_of [] d = refl
tab_of (x ∷ xs) d = ap (λ (ys : List _). x ∷ ys) (tab_of xs d)

pub map-tab : {X Y : Type 0} (n : ℕ) (f : ℕ → X) (g : X → Y) → map g (tab n f) ≡ tab n (λ i. g (f i))
map-tab zero f g = refl
map-tab (suc n) f g = ap (λ (ys : List _). g (f 0) ∷ ys) (map-tab n (λ i. f (suc i)) g)

-- a function that keeps 0 goes inside
pub at_map : (f : ℤ → ℤ) (xs : List ℤ) (i : ℕ) → f (pos 0) ≡ pos 0 → at (map f xs) i ≡ f (at xs i)
at_map f [] i e = sym e
at_map f (x ∷ xs) zero e = refl
at_map f (x ∷ xs) (suc i) e = at_map f xs i e

-- a list of zeros
pub zeros-at : (n i : ℕ) → at (replicate n (pos 0)) i ≡ pos 0
zeros-at zero i = refl
zeros-at (suc n) zero = refl
zeros-at (suc n) (suc i) = zeros-at n i
