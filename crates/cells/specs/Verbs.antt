-- The names of the calls.
use Rattle.std.specs.Prelude.{◌≡◌, ℕ, List, cond, true, codes, slice_index, refl}
use Rattle.std.proofs.Common.{eqb, sym, ap, ◌∙◌, lit<}
use Rattle.words.specs.Lines.{Lacks}
use Rattle.words.specs.Sorts.{sort_of, verb}
use Rattle.words.proofs.Cuts.{lacks_all}
use Rattle.forms.specs.Keywords.{Keywords}
use Rattle.cells.specs.declared.verb.Verb.{Verb}
use Rattle.cells.specs.declared.verb.Verb.TheVariants.{Bind, Unbind, Grip, Pull, Keep, Drop}

abbrev pub verb_word : Verb → List ℕ
verb_word Bind = codes "bind"
verb_word Unbind = codes "unbind"
verb_word Grip = codes "grip"
verb_word Pull = codes "pull"
verb_word Keep = codes "keep"
verb_word Drop = codes "drop"

-- a verb by its first byte
abbrev verb_from : ℕ → Verb
verb_from b = cond (eqb b 98) Bind (cond (eqb b 117) Unbind (cond (eqb b 103) Grip (cond (eqb b 112) Pull (cond (eqb b 107) Keep Drop))))

verb_back : (x : Verb) → verb_from (slice_index (verb_word x) 0) ≡ x
verb_back Bind = refl
verb_back Unbind = refl
verb_back Grip = refl
verb_back Pull = refl
verb_back Keep = refl
verb_back Drop = refl

verb_once : (x y : Verb) → verb_word x ≡ verb_word y → x ≡ y
verb_once x y e = sym (verb_back x) ∙ ap (λ w. verb_from (slice_index w 0)) e ∙ verb_back y

verb_lacks : (x : Verb) → Lacks 32 (verb_word x)
verb_lacks Bind = lacks_all (verb_word Bind) (lit< tt, (lit< tt, (lit< tt, (lit< tt, tt))))
verb_lacks Unbind = lacks_all (verb_word Unbind) (lit< tt, (lit< tt, (lit< tt, (lit< tt, (lit< tt, (lit< tt, tt))))))
verb_lacks Grip = lacks_all (verb_word Grip) (lit< tt, (lit< tt, (lit< tt, (lit< tt, tt))))
verb_lacks Pull = lacks_all (verb_word Pull) (lit< tt, (lit< tt, (lit< tt, (lit< tt, tt))))
verb_lacks Keep = lacks_all (verb_word Keep) (lit< tt, (lit< tt, (lit< tt, (lit< tt, tt))))
verb_lacks Drop = lacks_all (verb_word Drop) (lit< tt, (lit< tt, (lit< tt, (lit< tt, tt))))

verb_sort : (x : Verb) → sort_of true (verb_word x) ≡ verb
verb_sort Bind = refl
verb_sort Unbind = refl
verb_sort Grip = refl
verb_sort Pull = refl
verb_sort Keep = refl
verb_sort Drop = refl

pub verb_laws : Keywords verb_word
verb_laws = record { once = verb_once; sorted = verb_sort; spaceless = verb_lacks }
