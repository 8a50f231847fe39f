-- The first line of a card: which bytes say what.
use Rattle.std.specs.Prelude.{◌≡◌, ℕ, ◌≤◌, List, [], ◌∷◌, ◌++◌, length, Ok, Err, vec_items, codes, Result}
use Rattle.std.proofs.Common.{cond, eqb, true, slice_index, refl, sym, ap, ◌∙◌, lit<}
use Rattle.words.specs.Lines.{Lacks}
use Rattle.words.specs.Sorts.{sort_of, verb}
use Rattle.words.proofs.Cuts.{lacks_all}
use Rattle.forms.specs.Keywords.{Keywords}
use Rattle.words.specs.declared.fault.Fault.{Fault}
use Rattle.words.specs.Faults.{Refuses}
use Rattle.words.specs.Words.{joined_by}
use Rattle.heading.specs.declared.kind.KindWord.{KindWord}
use Rattle.heading.specs.declared.kind.KindWord.TheVariants.{Length, Point}
use Rattle.heading.specs.declared.read.Heading.{Heading}
use Rattle.heading.specs.Names.{Names, texts}

abbrev pub kind_word : KindWord → List ℕ
kind_word Length = codes "length"
kind_word Point = codes "point"

-- a kind by its first byte
abbrev kind_from : ℕ → KindWord
kind_from b = cond (eqb b 108) Length Point

kind_back : (k : KindWord) → kind_from (slice_index (kind_word k) 0) ≡ k
kind_back Length = refl
kind_back Point = refl

kind_once : (j k : KindWord) → kind_word j ≡ kind_word k → j ≡ k
kind_once j k e = sym (kind_back j) ∙ ap (λ w. kind_from (slice_index w 0)) e ∙ kind_back k

kind_lacks : (k : KindWord) → Lacks 32 (kind_word k)
kind_lacks Length = lacks_all (kind_word Length) (lit< tt, (lit< tt, (lit< tt, (lit< tt, (lit< tt, (lit< tt, tt))))))
kind_lacks Point = lacks_all (kind_word Point) (lit< tt, (lit< tt, (lit< tt, (lit< tt, (lit< tt, tt)))))

kind_sort : (k : KindWord) → sort_of true (kind_word k) ≡ verb
kind_sort Length = refl
kind_sort Point = refl

pub kind_laws : Keywords kind_word
kind_laws = record { once = kind_once; sorted = kind_sort; spaceless = kind_lacks }

-- the bytes of a heading: the kind's word and the names with one space between each two, then byte 10, 1,024 bytes at most
pub record Headed (bs : List ℕ) (kind : KindWord) (names : List (List ℕ)) : Type 0 where
  pub good : Names names
  pub joined : bs ≡ joined_by 32 (kind_word kind ∷ names) ++ 10 ∷ []
  pub short : length bs ≤ 1024

-- the names that a heading holds
abbrev pub names_of : Heading → List (List ℕ)
names_of h = texts (vec_items h.names)

-- a heading is read exactly when its bytes spell one
abbrev pub HeadingRead : List ℕ → Result Heading Fault → Type 0
HeadingRead bs (Ok h) = Headed bs h.kind (names_of h)
HeadingRead bs (Err e) = Refuses e ((kind : KindWord) (names : List (List ℕ)) → Headed bs kind names → ⊥)
