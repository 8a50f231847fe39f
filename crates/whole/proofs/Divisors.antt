-- The greatest common divisor of two numbers, and of a list's.
use Rattle.std.proofs.Common.{◌≡◌, ℕ, zero, suc, ◌/◌, ◌%◌, ◌<◌, ◌⊎◌, List, [], ◌∷◌, ℤ, pos, negsuc, ◌*ℤ◌, neg_ℤ, nat_abs, fold, take, drop, refl, sym, ap, ◌∙◌, ⊎_elim, not-suc-le-zero, mod-lt, arith}
use Prim.Native.Nat.{◌∣◌}
use native.Mathlib.Nat.{dvd_refl, dvd_trans, dvd-mod_iff, dvd-zero, le_of_dvd, pos_of_dvd_of_pos, mul-div_cancel'}
use lib.Signed.{quot_z}
use Rattle.std.proofs.lemmas.Nat.Gcd.{dvd_antisymm}
use Rattle.std.proofs.Math.Nat.{one-dvd}
use Rattle.std.proofs.lemmas.List.{take-append-drop}
use Rattle.std.proofs.lemmas.List.Sums.{fold-append}
use Rattle.whole.specs.Gcd.{euclid, gcd, gcd_all}
use Rattle.whole.specs.Lists.{at}
use Rattle.whole.specs.Laws.{GreatestDivisor, GreatestOfAll}
use Rattle.whole.proofs.Ring.{v, ◌⊗◌, ⊝, ring}

-- ---- two numbers
-- enough remainders are enough
euclid-same : (f g a b : ℕ) → b < f → b < g → euclid f a b ≡ euclid g a b
euclid-same zero g a b h k = absurd (not-suc-le-zero h)
euclid-same (suc f) zero a b h k = absurd (not-suc-le-zero k)
euclid-same (suc f) (suc g) a zero h k = refl
euclid-same (suc f) (suc g) a (suc b) h k =
    let m : a % suc b < suc b = mod-lt a (omega arith) in
    euclid-same f g (suc b) (a % suc b) (omega arith) (omega arith)

pub gcd-step : (a b : ℕ) → 0 < b → gcd a b ≡ gcd b (a % b)
gcd-step a zero h = absurd (not-suc-le-zero h)
gcd-step a (suc b) h =
    let m : a % suc b < suc b = mod-lt a (omega arith) in
    euclid-same (suc b) (suc (a % suc b)) (suc b) (a % suc b) m (omega arith)

euclid-divides : (f a b : ℕ) → b < f → (euclid f a b ∣ a) × (euclid f a b ∣ b)
euclid-divides zero a b h = absurd (not-suc-le-zero h)
euclid-divides (suc f) a zero h = (dvd_refl a, dvd-zero a)
euclid-divides (suc f) a (suc b) h =
    let m : a % suc b < suc b = mod-lt a (omega arith) in
    let r = euclid-divides f (suc b) (a % suc b) (omega arith) in
    ((dvd-mod_iff (euclid f (suc b) (a % suc b)) {m = a} {n = suc b} r.0).0 r.1, r.0)

pub gcd-left : (a b : ℕ) → gcd a b ∣ a
gcd-left a b = (euclid-divides (suc b) a b (omega arith)).0

pub gcd-right : (a b : ℕ) → gcd a b ∣ b
gcd-right a b = (euclid-divides (suc b) a b (omega arith)).1

euclid-greatest : (f a b k : ℕ) → b < f → k ∣ a → k ∣ b → k ∣ euclid f a b
euclid-greatest zero a b k h p q = p
euclid-greatest (suc f) a zero k h p q = p
euclid-greatest (suc f) a (suc b) k h p q =
    let m : a % suc b < suc b = mod-lt a (omega arith) in
    euclid-greatest f (suc b) (a % suc b) k (omega arith) q ((dvd-mod_iff k {m = a} {n = suc b} q).1 p)

pub gcd-greatest : (a b k : ℕ) → k ∣ a → k ∣ b → k ∣ gcd a b
gcd-greatest a b k p q = euclid-greatest (suc b) a b k (omega arith) p q

pub gcd-above : (a b : ℕ) → (0 < a) ⊎ (0 < b) → 0 < gcd a b
gcd-above a b h = ⊎_elim (pos_of_dvd_of_pos (gcd-left a b)) (pos_of_dvd_of_pos (gcd-right a b)) h

pub gcd_is : (a b : ℕ) → GreatestDivisor a b (gcd a b)
gcd_is a b = record {
  left = gcd-left a b;
  right = gcd-right a b;
  divided = gcd-greatest a b;
  greatest = λ k p q h. le_of_dvd (gcd-above a b h) (gcd-greatest a b k p q);
}

pub gcd_comm : (a b : ℕ) → gcd a b ≡ gcd b a
gcd_comm a b = dvd_antisymm (gcd-greatest b a (gcd a b) (gcd-right a b) (gcd-left a b)) (gcd-greatest a b (gcd b a) (gcd-right b a) (gcd-left b a))

-- ---- the numbers of a list
fold-divides : (xs : List ℤ) (g : ℕ) → (fold (λ g x. gcd g (nat_abs x)) g xs ∣ g) × ((i : ℕ) → fold (λ g x. gcd g (nat_abs x)) g xs ∣ nat_abs (at xs i))
fold-divides [] g = (dvd_refl g, λ i. dvd-zero g)
fold-divides (x ∷ xs) g =
    let h = gcd g (nat_abs x) in
    let r = fold-divides xs h in
    (dvd_trans (fold (λ g x. gcd g (nat_abs x)) h xs) r.0 (gcd-left g (nat_abs x)), at_place r)
  where
    all : ℕ
    all = fold (λ g x. gcd g (nat_abs x)) (gcd g (nat_abs x)) xs

    at_place : (all ∣ gcd g (nat_abs x)) × ((i : ℕ) → all ∣ nat_abs (at xs i)) → (i : ℕ) → all ∣ nat_abs (at (x ∷ xs) i)
    at_place r zero = dvd_trans all r.0 (gcd-right g (nat_abs x))
    at_place r (suc i) = r.1 i

pub gcd_all-divides : (xs : List ℤ) (i : ℕ) → gcd_all xs ∣ nat_abs (at xs i)
gcd_all-divides xs i = (fold-divides xs 0).1 i

-- no number changes a divisor of 1
fold_one : (xs : List ℤ) → fold (λ g x. gcd g (nat_abs x)) 1 xs ≡ 1
fold_one xs = dvd_antisymm (fold-divides xs 1).0 (one-dvd _)

pub gcd_all_one : (xs : List ℤ) (n : ℕ) → gcd_all (take n xs) ≡ 1 → gcd_all xs ≡ 1
gcd_all_one xs n e =
    ap gcd_all (sym (take-append-drop n xs))
    ∙ fold-append (λ g x. gcd g (nat_abs x)) 0 (take n xs) (drop n xs)
    ∙ ap (λ g. fold (λ g x. gcd g (nat_abs x)) g (drop n xs)) e
    ∙ fold_one (drop n xs)

fold-greatest : (xs : List ℤ) (g k : ℕ) → k ∣ g → ((i : ℕ) → k ∣ nat_abs (at xs i)) → k ∣ fold (λ g x. gcd g (nat_abs x)) g xs
fold-greatest [] g k h d = h
fold-greatest (x ∷ xs) g k h d = fold-greatest xs (gcd g (nat_abs x)) k (gcd-greatest g (nat_abs x) k h (d 0)) (λ i. d (suc i))

pub gcd_all-greatest : (xs : List ℤ) (k : ℕ) → ((i : ℕ) → k ∣ nat_abs (at xs i)) → k ∣ gcd_all xs
gcd_all-greatest xs k d = fold-greatest xs 0 k (dvd-zero k) d

-- a list with a number other than 0 has a divisor above 0
pub gcd_all-above : (xs : List ℤ) (i : ℕ) → 0 < nat_abs (at xs i) → 0 < gcd_all xs
gcd_all-above xs i h = pos_of_dvd_of_pos (gcd_all-divides xs i) h

-- ---- division by a divisor
pub exact : (g : ℕ) (a : ℤ) → g ∣ nat_abs a → pos g *ℤ quot_z a (pos g) ≡ a
exact g (pos n) h = ap pos (mul-div_cancel' g h)
exact g (negsuc n) h = ring (pos g ∷ pos (suc n / g) ∷ []) (v 0 ⊗ ⊝ (v 1)) (⊝ (v 0 ⊗ v 1)) tt ∙ ap (λ (x : ℕ). neg_ℤ (pos x)) (mul-div_cancel' g h)

pub gcd_all_is : (xs : List ℤ) → GreatestOfAll xs (gcd_all xs)
gcd_all_is xs = record {
  each = gcd_all-divides xs;
  divided = gcd_all-greatest xs;
  exact = λ i. exact (gcd_all xs) (at xs i) (gcd_all-divides xs i);
}
