-- The sort of a word that writes a value.
use Rattle.std.specs.Prelude.{◌≡◌, ℕ, ◌≤◌, Bool, true, List, [], ◌∷◌, ℤ, pos, negsuc, Some, None, Option}
use Rattle.std.proofs.Common.{ap, subst, ◌∙◌, arith}
use Rattle.std.proofs.lemmas.Str.Parse.{digit_at}
use Rattle.std.proofs.lemmas.Bool.Decides.{nat_tests}
use Rattle.words.specs.Numbers.{Number, Exactly}
use Rattle.words.specs.Reading.{Next, left, starts}
use Rattle.words.specs.Sorts.{verb, number, sort_of, text_of, Calls}
use Rattle.words.specs.declared.word.Reader.{Reader}
use Rattle.words.specs.declared.word.Word.{Word}
use Rattle.forms.specs.Forms.{Says}
use Rattle.forms.specs.Rows.{OneRead}

digit_sort : (first : Bool) (b : ℕ) (bs : List ℕ) → 48 ≤ b → b ≤ 57 → sort_of first (b ∷ bs) ≡ number
digit_sort first b bs l h = grind (arith, nat_tests)

-- a number's first byte is a digit or a minus
pub number_sort : (first : Bool) (bs : List ℕ) (z : ℤ) → Number bs z → sort_of first bs ≡ number
number_sort first [] (pos n) p = absurd (omega (arith, p.digits.0))
number_sort first (b ∷ bs) (pos n) p = let d = digit_at (b ∷ bs) 0 p.digits.1 (omega arith) in digit_sort first b bs d.0 d.1
number_sort first bs (negsuc n) p = ap (sort_of first) p.1

-- a value from the next word
pub value_read : {V : Type 0} (form : List ℕ → V → Type 0) (before after : Reader) (x : Word) (r : Option V) → Next before after (Some x) → Exactly (Says form) x r → OneRead form (left before) (left after) r
value_read form before after x (Some v) n h = (text_of x, n.0, h.says)
value_read form before after x None n h = λ u rest v e f.
    let same : u ≡ text_of x = let d = n.0 in cc in
    h v (record { first = starts before; sorted = n.2; says = subst (λ bs. form bs v) same f })

-- the line's first word, which has to be one of some words
pub first_read : {X : Type 0} (word_of : X → List ℕ) → ((y : X) → sort_of true (word_of y) ≡ verb) → (before after : Reader) (x : Word) (r : Option X) → starts before ≡ true → Next before after (Some x) → Exactly (Calls word_of) x r → OneRead (λ u y. u ≡ word_of y) (left before) (left after) r
first_read word_of by before after x (Some y) s n h = (text_of x, n.0, h.says)
first_read word_of by before after x None s n h = λ u rest y e f.
    let same : text_of x ≡ u = let d = n.0 in cc in
    h y (record { sorted = n.2 ∙ (λ i. sort_of (s i) ((same ∙ f) i)) ∙ by y; says = same ∙ f })
