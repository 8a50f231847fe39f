-- The sort of a word that writes a value.
use Rattle.std.proofs.Common.{◌≡◌, ℕ, Bool, true, List, Some, None, Option, sym, ap, subst, arith, Bor}
use Rattle.words.specs.Numbers.{Exactly}
use Rattle.words.specs.Sorts.{Sort, number, cell, sort_of}
use Rattle.words.specs.declared.word.Word.{Word}
use Rattle.words.specs.declared.word.Word.TheVariants as w
use Rattle.forms.specs.Forms.{Says}
use Rattle.forms.specs.Leads.{number_sort}
use Rattle.cells.specs.Cells.{CellForm, Marked, Weighed}
use Rattle.cells.specs.declared.cell.Cell.{Cell}
use Rattle.cells.specs.declared.cell.Cell.TheVariants.{Held, Pulled, Loose, Weighted}

mark_sort : (bs : List ℕ) (v : Cell) → Marked bs v → (first : Bool) → sort_of first bs ≡ cell
mark_sort bs Held e first = ap (sort_of first) e
mark_sort bs Pulled e first = ap (sort_of first) e
mark_sort bs Loose e first = ap (sort_of first) e
mark_sort bs (Weighted n) e first = absurd e

-- no sort is two sorts
apart : (s : Sort) → s ≡ cell → s ≡ number → ⊥
apart s p q = let z : ◌≡◌ {A = ℕ} 0 1 = cc in omega arith

marked : (bs : List ℕ) (v : Cell) (first : Bool) → cell ≡ sort_of first bs → CellForm bs v → Marked bs v
marked bs Held first e f = f
marked bs Pulled first e f = f
marked bs Loose first e f = f
marked bs (Weighted n) first e f = apart (sort_of first bs) (sym e) (number_sort first bs n f)

weighed : (bs : List ℕ) (v : Cell) (first : Bool) → number ≡ sort_of first bs → CellForm bs v → Weighed bs v
weighed bs Held first e f = apart (sort_of first bs) (mark_sort bs Held f first) (sym e)
weighed bs Pulled first e f = apart (sort_of first bs) (mark_sort bs Pulled f first) (sym e)
weighed bs Loose first e f = apart (sort_of first bs) (mark_sort bs Loose f first) (sym e)
weighed bs (Weighted n) first e f = f

of_mark : (bs : List ℕ) (v : Cell) → Marked bs v → CellForm bs v
of_mark bs Held f = f
of_mark bs Pulled f = f
of_mark bs Loose f = f
of_mark bs (Weighted n) f = absurd f

of_weight : (bs : List ℕ) (v : Cell) → Weighed bs v → CellForm bs v
of_weight bs Held f = absurd f
of_weight bs Pulled f = absurd f
of_weight bs Loose f = absurd f
of_weight bs (Weighted n) f = f

weight-sort : (bs : List ℕ) (v : Cell) → Weighed bs v → sort_of true bs ≡ number
weight-sort bs Held f = absurd f
weight-sort bs Pulled f = absurd f
weight-sort bs Loose f = absurd f
weight-sort bs (Weighted n) f = number_sort true bs n f

mark_says : (bytes : Bor (List ℕ)) (r : Option Cell) → Exactly Marked bytes.now r → Exactly (Says CellForm) (w.Cell bytes) r
mark_says bytes (Some v) h = record { first = true; sorted = sym (mark_sort bytes.now v h true); says = of_mark bytes.now v h }
mark_says bytes None h = λ v s. h v (marked bytes.now v s.first s.sorted s.says)

weight-says : (bytes : Bor (List ℕ)) (r : Option Cell) → Exactly Weighed bytes.now r → Exactly (Says CellForm) (w.Number bytes) r
weight-says bytes (Some v) h = record { first = true; sorted = sym (weight-sort bytes.now v h); says = of_weight bytes.now v h }
weight-says bytes None h = λ v s. h v (weighed bytes.now v s.first s.sorted s.says)

pub cell-by_mark : (word : Word) (bytes : Bor (List ℕ)) (r : Option Cell) → word ≡ w.Cell bytes → Exactly Marked bytes.now r → Exactly (Says CellForm) word r
cell-by_mark word bytes r e h = let P : Word → Type 0 = λ x. Exactly (Says CellForm) x r in subst P (sym e) (mark_says bytes r h)

pub cell-by-weight : (word : Word) (bytes : Bor (List ℕ)) (r : Option Cell) → word ≡ w.Number bytes → Exactly Weighed bytes.now r → Exactly (Says CellForm) word r
cell-by-weight word bytes r e h = let P : Word → Type 0 = λ x. Exactly (Says CellForm) x r in subst P (sym e) (weight-says bytes r h)
