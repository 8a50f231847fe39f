-- What the writer's steps append.
use Rattle.std.proofs.Common.{◌≡◌, ℕ, zero, suc, ◌+◌, ◌<◌, List, [], ◌∷◌, ◌++◌, length, get_or, take, ℤ, Ok, Err, Result, sym, refl, ap, ◌∙◌, subst, append_assoc, append-nil, arith}
use Rattle.std.proofs.lemmas.List.{take_more}
use Rattle.words.specs.declared.fault.Fault.{Fault}
use Rattle.forms.specs.Forms.{PutWord}
use Rattle.forms.specs.Rows.{Each}
use Rattle.words.specs.Words.{spaced}
use Rattle.words.proofs.Cuts.{spaced-append}
use Rattle.card.specs.Writes.{PutWords, OneWord}
use Rattle.forms.proofs.Rows.{each_push}
use Rattle.words.proofs.Appends.{refuses_map}
use Rattle.words.specs.Numbers.{Number}
use Rattle.lines.specs.Lines.{Said, binds, Values}

module _ {V : Type 0} (form : List ℕ → V → Type 0) where
  pub put_one : (r : Result (Unit {0}) Fault) (v : V) (before mid after : List ℕ) (d : ℕ) → mid ≡ before ++ d ∷ [] → d ≡ 32 → PutWord form v mid after r → PutWords (OneWord form v) before after r
  put_one (Ok x) v before mid after d e is h =
      (h.0 ∷ [], h.1 ∙ ap (λ l. l ++ h.0) (e ∙ ap (λ x. before ++ x ∷ []) is) ∙ append_assoc before (32 ∷ []) h.0 ∙ ap (λ l. before ++ 32 ∷ l) (sym (append-nil h.0)), (h.0, refl, h.2))
  put_one (Err x) v before mid after d e is h = refuses_map x _ _ (λ none ws w. none w.0 w.2) h

  -- the words of the first i values stand behind `before`
  abbrev pub Appended : List V → ℕ → List ℕ → List ℕ → Type 0
  Appended xs i before after = (ws : List (List ℕ)) × (after ≡ before ++ spaced ws) × Each form ws (take i xs)

  pub put_more : (xs : List V) (i : ℕ) (v : V) (before mid after : List ℕ) → i < length xs → v ≡ get_or xs i v → Appended xs i before mid → (o : (ws : List (List ℕ)) × (after ≡ mid ++ spaced ws) × OneWord form v ws) → Appended xs (i + 1) before after
  put_more xs i v before mid after l e m o =
      let words = m.0 ++ o.2.0 ∷ [] in (
        words,
        o.1 ∙ ap (λ b. b ++ spaced o.0) m.1 ∙ append_assoc before (spaced m.0) (spaced o.0) ∙ ap (λ b. before ++ b) (ap (λ w. spaced m.0 ++ spaced w) o.2.1 ∙ sym (spaced-append m.0 (o.2.0 ∷ []))),
        subst (Each form words) (sym (take_more xs i v l ∙ ap (λ y. take i xs ++ y ∷ []) (sym e))) (each_push form m.0 (take i xs) o.2.0 v m.2 o.2.2),
      )

  -- a value with no word leaves the row without words
  pub put_none : (xs : List V) (i : ℕ) (v : V) → i < length xs → v ≡ get_or xs i v → ((ws : List (List ℕ)) → OneWord form v ws → ⊥) → (ws : List (List ℕ)) → Each form ws xs → ⊥
  put_none xs i v l e h ws x = none xs i l e ws x
    where
      none : (xs : List V) (i : ℕ) → i < length xs → v ≡ get_or xs i v → (ws : List (List ℕ)) → Each form ws xs → ⊥
      none [] i l e ws x = omega arith
      none (y ∷ xs) i l e [] x = x
      none (y ∷ xs) zero l e (w ∷ ws) x = h (w ∷ []) (w, refl, subst (form w) (sym e) x.0)
      none (y ∷ xs) (suc i) l e (w ∷ ws) x = none xs i (omega arith) e ws x.1

module _ {V : Type 0} (form : List ℕ → V → Type 0) (count : ℕ) where
  pub put_constant : (r : Result (Unit {0}) Fault) (cs : List ℤ) (q : V) (before mid after : List ℕ) → (m : (ws : List (List ℕ)) × (mid ≡ before ++ spaced ws) × ((length cs ≡ count) × Each Number ws cs)) → PutWords (OneWord form q) mid after r → PutWords (λ ws. Values form count ws (binds cs q)) before after r
  put_constant (Ok x) cs q before mid after m o = (
    m.0 ++ o.0,
    o.1 ∙ ap (λ b. b ++ spaced o.0) m.1 ∙ append_assoc before (spaced m.0) (spaced o.0) ∙ ap (λ b. before ++ b) (sym (spaced-append m.0 o.0)),
    (m.0, o.2.0, ap (λ l. m.0 ++ l) o.2.1, m.2.0, m.2.1, o.2.2),
  )
  put_constant (Err e) cs q before mid after m o = refuses_map e _ _ (λ none ws v. none (v.1 ∷ []) (v.1, refl, v.5)) o

  pub put_said : (r : Result (Unit {0}) Fault) (s t : Said V) (before after : List ℕ) → t ≡ s → PutWords (λ ws. Values form count ws s) before after r → PutWords (λ ws. Values form count ws t) before after r
  put_said r s t before after e h =
      let P : Said V → Type 0 = λ x. PutWords (λ ws. Values form count ws x) before after r in
      subst P (sym e) h
