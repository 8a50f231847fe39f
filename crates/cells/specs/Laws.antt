-- The laws of the cells: one value to a word, one word to a value, and no space in a word.
use Rattle.std.specs.Prelude.{◌≡◌, ℕ, zero, suc, ◌<◌, ◌≤◌, List, [], ◌∷◌, length, ℤ, pos, negsuc, Ok, Err, Result, ◌≢◌, refl}
use Rattle.std.proofs.Common.{sym, ap, subst, ◌∙◌, arith}
use Rattle.std.proofs.lemmas.Str.Parse.{digit_at}
use Rattle.words.specs.declared.fault.Fault.{Fault}
use Rattle.words.specs.Numbers.{Number}
use Rattle.words.proofs.Digits.{number-once}
use Rattle.forms.specs.Laws.{number_laws}
use Rattle.forms.specs.Forms.{Forms, Visible, PutWord}
use Rattle.cells.specs.Cells.{CellForm}
use Rattle.cells.specs.declared.cell.Cell.{Cell}
use Rattle.cells.specs.declared.cell.Cell.TheVariants.{Held, Pulled, Loose, Weighted}

-- a single byte that is no digit writes no number
pub no_number : (b : ℕ) (z : ℤ) → ((48 ≤ b) × (b ≤ 57) → ⊥) → Number (b ∷ []) z → ⊥
no_number b (pos n) h p = h (digit_at (b ∷ []) 0 p.digits.1 (omega arith))
no_number b (negsuc n) h p = let e : p.0 ≡ [] = let q = p.1 in cc in omega (arith, p.2.digits.0, ap length e)

mark_apart : (w : List ℕ) (a b : ℕ) → w ≡ a ∷ [] → w ≡ b ∷ [] → (a ≢ b) → ⊥
mark_apart w a b p q h = h (cc)

mark_number : (w : List ℕ) (b : ℕ) (z : ℤ) → w ≡ b ∷ [] → Number w z → ((48 ≤ b) × (b ≤ 57) → ⊥) → ⊥
mark_number w b z e p h = no_number b z h (subst (λ v. Number v z) e p)

cell_once : (w : List ℕ) (u v : Cell) → CellForm w u → CellForm w v → u ≡ v
cell_once w Held Held p q = refl
cell_once w Held Pulled p q = absurd (mark_apart w 46 42 p q (λ e. omega arith))
cell_once w Held Loose p q = absurd (mark_apart w 46 126 p q (λ e. omega arith))
cell_once w Held (Weighted n) p q = absurd (mark_number w 46 n p q (λ e. omega (arith, e.0)))
cell_once w Pulled Held p q = absurd (mark_apart w 42 46 p q (λ e. omega arith))
cell_once w Pulled Pulled p q = refl
cell_once w Pulled Loose p q = absurd (mark_apart w 42 126 p q (λ e. omega arith))
cell_once w Pulled (Weighted n) p q = absurd (mark_number w 42 n p q (λ e. omega (arith, e.0)))
cell_once w Loose Held p q = absurd (mark_apart w 126 46 p q (λ e. omega arith))
cell_once w Loose Pulled p q = absurd (mark_apart w 126 42 p q (λ e. omega arith))
cell_once w Loose Loose p q = refl
cell_once w Loose (Weighted n) p q = absurd (mark_number w 126 n p q (λ e. omega (arith, e.1)))
cell_once w (Weighted n) Held p q = absurd (mark_number w 46 n q p (λ e. omega (arith, e.0)))
cell_once w (Weighted n) Pulled p q = absurd (mark_number w 42 n q p (λ e. omega (arith, e.0)))
cell_once w (Weighted n) Loose p q = absurd (mark_number w 126 n q p (λ e. omega (arith, e.1)))
cell_once w (Weighted m) (Weighted n) p q = ap Weighted (number-once w m n p q)

cell_word : (w x : List ℕ) (v : Cell) → CellForm w v → CellForm x v → w ≡ x
cell_word w x Held p q = p ∙ sym q
cell_word w x Pulled p q = p ∙ sym q
cell_word w x Loose p q = p ∙ sym q
cell_word w x (Weighted n) p q = number_laws.one_word w x n p q

mark_visible : (w : List ℕ) (b : ℕ) → w ≡ b ∷ [] → 32 < b → Visible w
mark_visible w b e h = subst Visible (sym e) one
  where
    one : Visible (b ∷ [])
    one zero l = h
    one (suc k) l = absurd (omega arith)

cell_visible : (w : List ℕ) (v : Cell) → CellForm w v → Visible w
cell_visible w Held p = mark_visible w 46 p (omega arith)
cell_visible w Pulled p = mark_visible w 42 p (omega arith)
cell_visible w Loose p = mark_visible w 126 p (omega arith)
cell_visible w (Weighted n) p = number_laws.visible w n p

pub cell_laws : Forms CellForm
cell_laws = record { one_value = cell_once; one_word = cell_word; visible = cell_visible }

pub put_weight : (r : Result (Unit {0}) Fault) (cell : Cell) (m n : ℤ) (before after : List ℕ) → cell ≡ Weighted n → m ≡ n → PutWord Number m before after r → PutWord CellForm cell before after r
put_weight r cell m n before after e same h =
    let P : ℤ → Type 0 = λ z. PutWord Number z before after r in
    let Q : Cell → Type 0 = λ k. PutWord CellForm k before after r in
    subst Q (sym e) (same_put r n before after (subst P same h))
  where
    same_put : (r : Result (Unit {0}) Fault) (n : ℤ) (before after : List ℕ) → PutWord Number n before after r → PutWord CellForm (Weighted n) before after r
    same_put (Ok x) n before after h = h
    same_put (Err x) n before after h = h
