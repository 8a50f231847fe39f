-- A word cut at its first comma.
use Rattle.std.proofs.Common.{◌≡◌, ◌≢◌, ℕ, ◌+◌, ◌-◌, ◌<◌, ◌≤◌, List, ◌∷◌, ◌++◌, length, take, drop, Some, None, eqb, slice_index, sym, ap, ◌∙◌, subst, refl, take-append-drop, length-append, arith}
use Rattle.std.proofs.lemmas.List.{drop_more, take_all, get_or-take, get_or_at, length-drop, length-take}
use Rattle.std.specs.List.{position}
use Rattle.kinds.specs.declared.point.Point.{Point}
use Rattle.words.specs.Lines.{Lacks}
use Rattle.words.specs.Numbers.{Number}
use Rattle.words.proofs.Cuts.{first_at, nowhere}
use Rattle.forms.specs.Points.{parts}
use Rattle.forms.specs.Values.{PointForm}

-- a point's word has a comma among its bytes
pub without_comma : (w : List ℕ) (n : ℕ) → length w ≤ n → ((k : ℕ) → k < n → slice_index w k ≢ 44) → (p : Point) → PointForm w p → ⊥
without_comma w n l none p f =
    let long = ap length f.comma ∙ length-append f.first (44 ∷ f.second) in
    none (length f.first) (omega arith) (ap (λ v. slice_index v (length f.first)) f.comma ∙ get_or_at f.first 44 f.second 0 (length f.first) refl)

-- the parts of a word before a place and behind it
abbrev pub front : List ℕ → ℕ → List ℕ
front w n = take n w

abbrev pub behind : List ℕ → ℕ → List ℕ
behind w n = take (length w - (n + 1)) (drop (n + 1) w)

-- a word is its parts around a comma
pub around_comma : (w : List ℕ) (n : ℕ) → n < length w → slice_index w n ≡ 44 → w ≡ front w n ++ 44 ∷ behind w n
around_comma w n l e =
    sym (take-append-drop n w) ∙ ap (λ v. take n w ++ v) (drop_more w n 0 l ∙ (λ i. e i ∷ sym (take_all (length w - (n + 1)) (drop (n + 1) w) (omega (arith, length-drop (n + 1) w))) i))

-- with no comma before a place there is none in the part before it
pub front_lacks : (w : List ℕ) (n : ℕ) → ((k : ℕ) → k < n → slice_index w k ≢ 44) → n ≤ length w → Lacks 44 (front w n)
front_lacks w n none l k kl e =
    let inside : k < n = omega (arith, length-take n w) in
    none k inside (sym (get_or-take n w k 0 inside) ∙ e)

-- a word with no comma
pub no_comma : (w : List ℕ) → position (λ b. eqb b 44) w ≡ None → (p : Point) → PointForm w p → ⊥
no_comma w none = without_comma w (length w) (omega arith) (nowhere 44 w none)

-- a word with its first comma at n
module _ (w : List ℕ) (n : ℕ) (first : position (λ b. eqb b 44) w ≡ Some n) where
  pub around : w ≡ front w n ++ 44 ∷ behind w n
  around = let h = first_at 44 w n first in around_comma w n h.0 h.1

  first_lacks : Lacks 44 (front w n)
  first_lacks = let h = first_at 44 w n first in front_lacks w n h.2 (omega (arith, h.0))

  -- these parts write the point's numbers
  pub halves : (p : Point) → PointForm w p → Number (front w n) p.x × Number (behind w n) p.y
  halves p f =
      let same = parts w (front w n) (behind w n) p around first_lacks f in
      (subst (λ v. Number v p.x) same.0 f.left, subst (λ v. Number v p.y) same.1 f.right)
