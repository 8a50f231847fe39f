-- The relations that count, among all.
use Rattle.std.proofs.Common.{◌≡◌, ℕ, zero, suc, ◌<◌, Bool, true, false, cond, not, ◌&&◌, ◌⊎◌, List, [], ◌∷◌, ◌++◌, length, get_or, pos, refl, ap, inl, inr, ⊎_elim, suc-le-suc, zero-le, le_of_suc-le-suc, not-suc-le-zero}
use mathlib.Core.Bool.{false≢true}
use Rattle.std.proofs.lemmas.Bool.{and_cases, not-false}
use Rattle.whole.specs.Lists.{at}
use Rattle.whole.specs.Tests.{nonzero}
use Rattle.whole.proofs.Tests.{any_false, nonzero_false}
use Rattle.records.specs.declared.role.Role.{Role}
use Rattle.records.specs.declared.role.Role.TheVariants.{Held, Pulled, Loose}
use Rattle.rules.specs.Sheets.{Bond, no_bond}
use Rattle.rules.specs.Gripping.{role, is_held, counts, counted}

module _ (n : ℕ) (roles : List Role) where
  pub counted-append : (xs ys : List Bond) → counted n roles (xs ++ ys) ≡ counted n roles xs ++ counted n roles ys
  counted-append [] ys = refl
  counted-append (x ∷ xs) ys = by (counts n roles x.coefs) (counted-append xs ys)
    where
      by : (b : Bool) → counted n roles (xs ++ ys) ≡ counted n roles xs ++ counted n roles ys
          → cond b (x ∷ counted n roles (xs ++ ys)) (counted n roles (xs ++ ys)) ≡ cond b (x ∷ counted n roles xs) (counted n roles xs) ++ counted n roles ys
      by true e = ap (λ l. x ∷ l) e
      by false e = e

  -- what holds of each relation holds of each that counts, and past the end
  pub counted_all : (P : Bond → Type 0) (bs : List Bond) → ((i : ℕ) → P (get_or bs i no_bond)) → (j : ℕ) → P (get_or (counted n roles bs) j no_bond)
  counted_all P [] h j = h 0
  counted_all P (b ∷ bs) h j = by (counts n roles b.coefs) j (counted_all P bs (λ i. h (suc i)))
    where
      by : (x : Bool) (j : ℕ) → ((j : ℕ) → P (get_or (counted n roles bs) j no_bond)) → P (get_or (cond x (b ∷ counted n roles bs) (counted n roles bs)) j no_bond)
      by true zero ih = h 0
      by true (suc j) ih = ih j
      by false j ih = ih j

  -- each that counts is among all
  pub among : (bs : List Bond) (j : ℕ) → j < length (counted n roles bs) → (i : ℕ) × (i < length bs) × (get_or bs i no_bond ≡ get_or (counted n roles bs) j no_bond)
  among [] j l = absurd (not-suc-le-zero l)
  among (b ∷ bs) j l = by (counts n roles b.coefs) j l (among bs)
    where
      by : (x : Bool) (j : ℕ) → j < length (cond x (b ∷ counted n roles bs) (counted n roles bs))
          → ((j : ℕ) → j < length (counted n roles bs) → (i : ℕ) × (i < length bs) × (get_or bs i no_bond ≡ get_or (counted n roles bs) j no_bond))
          → (i : ℕ) × (i < suc (length bs)) × (get_or (b ∷ bs) i no_bond ≡ get_or (cond x (b ∷ counted n roles bs) (counted n roles bs)) j no_bond)
      by true zero l ih = (zero, suc-le-suc zero-le, refl)
      by true (suc j) l ih = let h = ih j (le_of_suc-le-suc l) in (suc h.0, suc-le-suc h.1, h.2)
      by false j l ih = let h = ih j l in (suc h.0, suc-le-suc h.1, h.2)

  -- each of all counts, and is among those, or does not
  pub counts_or_not : (bs : List Bond) (i : ℕ) → i < length bs
      → ((j : ℕ) × (j < length (counted n roles bs)) × (get_or (counted n roles bs) j no_bond ≡ get_or bs i no_bond)) ⊎ (counts n roles (get_or bs i no_bond).coefs ≡ false)
  counts_or_not [] i l = absurd (not-suc-le-zero l)
  counts_or_not (b ∷ bs) i l = by (counts n roles b.coefs) refl i l (counts_or_not bs)
    where
      by : (x : Bool) → counts n roles b.coefs ≡ x → (i : ℕ) → i < suc (length bs)
          → ((i : ℕ) → i < length bs → ((j : ℕ) × (j < length (counted n roles bs)) × (get_or (counted n roles bs) j no_bond ≡ get_or bs i no_bond)) ⊎ (counts n roles (get_or bs i no_bond).coefs ≡ false))
          → ((j : ℕ) × (j < length (cond x (b ∷ counted n roles bs) (counted n roles bs))) × (get_or (cond x (b ∷ counted n roles bs) (counted n roles bs)) j no_bond ≡ get_or (b ∷ bs) i no_bond))
          ⊎ (counts n roles (get_or (b ∷ bs) i no_bond).coefs ≡ false)
      by true e zero l ih = inl (zero, suc-le-suc zero-le, refl)
      by false e zero l ih = inr e
      by true e (suc i) l ih = ⊎_elim (λ h. inl (suc h.0, suc-le-suc h.1, h.2)) inr (ih i (le_of_suc-le-suc l))
      by false e (suc i) l ih = ih i (le_of_suc-le-suc l)

  -- in a relation that does not count, a parameter is held or has the coefficient 0
  pub idle_at : (b : Bond) → counts n roles b.coefs ≡ false → (s : ℕ) → s < n → (role roles s ≡ Held) ⊎ (at b.coefs s ≡ pos 0)
  idle_at b e s l = ⊎_elim (λ h. inl (is_held_is (role roles s) (not-false (is_held (role roles s)) h))) (λ h. inr (nonzero_false (at b.coefs s) h))
      (and_cases (not (is_held (role roles s))) (nonzero (at b.coefs s)) (any_false n (λ s. not (is_held (role roles s)) && nonzero (at b.coefs s)) e s l))
    where
      is_held_is : (x : Role) → is_held x ≡ true → x ≡ Held
      is_held_is Held e = refl
      is_held_is Pulled e = absurd (false≢true e)
      is_held_is (Loose w) e = absurd (false≢true e)
