-- The laws of the forms: one value to a word, one word to a value, and no space in a word.
use Rattle.std.specs.Prelude.{◌≡◌, ℕ, zero, suc, ◌<◌, ◌⊎◌, List, ◌∷◌, ◌++◌, length, ℤ, pos, negsuc, Ok, Err, Result, slice_index, refl}
use Rattle.std.proofs.Common.{sym, ap, subst, ◌∙◌, inl, inr, ⊎_elim, arith}
use Rattle.std.specs.Int.{IsInRange}
use Rattle.std.proofs.lemmas.Str.Parse.{digit_at}
use Rattle.std.specs.Fmt.{signed_decimal}
use Rattle.words.specs.declared.fault.Fault.{Fault}
use Rattle.words.specs.Numbers.{Number, Short}
use Rattle.words.specs.Faults.{Done, Refuses}
use Rattle.words.proofs.Digits.{number-once, number-written, written-number}
use Rattle.forms.specs.Forms.{Forms, PutWord}

-- the bytes of a number are digits and a minus
pub number_bytes : (w : List ℕ) (z : ℤ) → Number w z → (k : ℕ) → k < length w → (slice_index w k ≡ 45) ⊎ IsInRange 48 57 (slice_index w k)
number_bytes w (pos n) p k l = inr (digit_at w k p.digits.1 l)
number_bytes w (negsuc n) p k l = let P : List ℕ → Type 0 = λ v. (k < length v → (slice_index v k ≡ 45) ⊎ IsInRange 48 57 (slice_index v k)) in subst P (sym p.1) (after k) l
  where
    after : (k : ℕ) → k < length (45 ∷ p.0) → (slice_index (45 ∷ p.0) k ≡ 45) ⊎ IsInRange 48 57 (slice_index (45 ∷ p.0) k)
    after zero l = inl refl
    after (suc k) l = inr (digit_at p.0 k p.2.digits.1 (omega arith))

pub number_laws : Forms Number
number_laws = record {
  one_value = number-once;
  one_word = λ w x v p q. number-written w v p ∙ sym (number-written x v q);
  visible = λ w v p k l. ⊎_elim (λ e. omega arith) (λ e. omega (arith, e.0)) (number_bytes w v p k l);
}

pub put_number : (r : Result (Unit {0}) Fault) (n m : ℤ) (before after : List ℕ) → m ≡ n → Short n → Done r (after ≡ before ++ signed_decimal m) → PutWord Number n before after r
put_number (Ok x) n m before after same short h = (signed_decimal n, h ∙ ap (λ z. before ++ signed_decimal z) same, written-number n short)
put_number (Err e) n m before after same short h = let P : Fault → Type 0 = λ x. Refuses x ((w : List ℕ) → Number w n → ⊥) in subst P (sym h) tt
