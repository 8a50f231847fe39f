-- One way to write a line, and one way to read it.
use Rattle.std.proofs.Common.{◌≡◌, ℕ, ◌<◌, ◌≤◌, ◌⊎◌, List, [], ◌∷◌, ◌++◌, length, take, Ok, Err, Result, sym, refl, ap, ◌∙◌, subst, ⊎_elim, arith}
use Rattle.words.specs.declared.fault.Fault.{Fault}
use Rattle.cells.specs.declared.verb.Verb.{Verb}
use Rattle.words.specs.Numbers.{Number}
use Rattle.words.specs.Words.{joined_by, spaced, pieces}
use Rattle.forms.specs.Forms.{Forms}
use Rattle.cells.specs.Cells.{CellForm}
use Rattle.cells.specs.Verbs.{verb_word, verb_laws}
use Rattle.forms.specs.Rows.{Each}
use Rattle.words.specs.Faults.{Refuses}
use Rattle.words.specs.Lines.{Placed}
use Rattle.lines.specs.Lines.{Said, binds, unbinds, grips, pulls, keeps, drops, said, verb_of, Values, Spelled, LineRead}
use Rattle.calls.specs.declared.call.Call.{Call}
use Rattle.cells.specs.declared.cell.Cell.{Cell}
use Rattle.card.specs.Writes.{Worded, LineWritten, Copied, Reread}
use Rattle.forms.proofs.Rows.{each-length}
use Rattle.forms.specs.Laws.{number_laws}
use Rattle.cells.specs.Laws.{cell_laws}
use Rattle.lines.proofs.Sayings.{append-parts, as-bind, as-unbind, as-grip, as-pull, as-keep, as-drop}
use Rattle.words.proofs.Appends.{refuses_map}
use Rattle.lines.proofs.Whole.{values_lack}
use Rattle.words.proofs.Cuts.{pieces-joined, joined-spaced}
use Rattle.std.proofs.lemmas.List.{same_from_push}

each-words : {U : Type 0} (form : List ℕ → U → Type 0) → Forms form → (us ws : List (List ℕ)) (xs : List U) → Each form us xs → Each form ws xs → us ≡ ws
each-words form laws [] [] [] p q = refl
each-words form laws [] [] (x ∷ xs) p q = absurd p
each-words form laws [] (w ∷ ws) [] p q = absurd q
each-words form laws [] (w ∷ ws) (x ∷ xs) p q = absurd p
each-words form laws (u ∷ us) [] [] p q = absurd p
each-words form laws (u ∷ us) [] (x ∷ xs) p q = absurd q
each-words form laws (u ∷ us) (w ∷ ws) [] p q = absurd p
each-words form laws (u ∷ us) (w ∷ ws) (x ∷ xs) p q = let a = laws.one_word u w x p.0 q.0 in let b = each-words form laws us ws xs p.1 q.1 in cc

each-values : {U : Type 0} (form : List ℕ → U → Type 0) → Forms form → (ws : List (List ℕ)) (xs ys : List U) → Each form ws xs → Each form ws ys → xs ≡ ys
each-values form laws [] [] [] p q = refl
each-values form laws [] [] (y ∷ ys) p q = absurd q
each-values form laws [] (x ∷ xs) ys p q = absurd p
each-values form laws (w ∷ ws) [] ys p q = absurd p
each-values form laws (w ∷ ws) (x ∷ xs) [] p q = absurd q
each-values form laws (w ∷ ws) (x ∷ xs) (y ∷ ys) p q = let a = laws.one_value w x y p.0 q.0 in let b = each-values form laws ws xs ys p.1 q.1 in cc

module _ {V : Type 0} (form : List ℕ → V → Type 0) (count : ℕ) where
  pub worded : (s : Said V) (verb : Verb) (t₀ t₁ t₂ t₃ : List ℕ) (d : ℕ) → verb ≡ verb_of s → t₀ ≡ [] → t₁ ≡ t₀ ++ verb_word verb → (a : (ws : List (List ℕ)) × (t₂ ≡ t₁ ++ spaced ws) × Values form count ws s) → t₃ ≡ t₂ ++ d ∷ [] → d ≡ 10 → Worded form count t₃ s
  worded s verb t₀ t₁ t₂ t₃ d e none p a end is = record {
    words = a.0;
    values = a.2;
    joined = end ∙ ap (λ x. t₂ ++ x ∷ []) is ∙ ap (λ t. t ++ 10 ∷ []) (a.1 ∙ ap (λ t. t ++ spaced a.0) (p ∙ ap (λ t. t ++ verb_word verb) none ∙ ap verb_word e) ∙ sym (joined-spaced (verb_word (verb_of s)) a.0));
  }

module _ {V : Type 0} (form : List ℕ → V → Type 0) (laws : Forms form) (count : ℕ) where
  values-words : (us ws : List (List ℕ)) (s : Said V) → Values form count us s → Values form count ws s → us ≡ ws
  values-words us ws (binds cs q) x y =
      let a = each-words Number number_laws x.0 y.0 cs x.4 y.4 in
      let b = laws.one_word x.1 y.1 q x.5 y.5 in
      x.2 ∙ (λ i. a i ++ b i ∷ []) ∙ sym y.2
  values-words us ws (unbinds n) x y = x.1 ∙ ap (λ w. w ∷ []) (number_laws.one_word x.0 y.0 n x.2 y.2) ∙ sym y.1
  values-words us ws (grips cells) x y = each-words CellForm cell_laws us ws cells x.1 y.1
  values-words us ws (pulls xs) x y = each-words form laws us ws xs x.1 y.1
  values-words us ws keeps x y = x ∙ sym y
  values-words us ws drops x y = x ∙ sym y

  worded_once : (bs cs : List ℕ) (s : Said V) → Spelled form count bs s → Worded form count cs s → bs ≡ cs
  worded_once bs cs s p q = p.joined ∙ ap (λ ws. joined_by 32 (verb_word (verb_of s) ∷ ws) ++ 10 ∷ []) (values-words p.words q.words s p.values q.values) ∙ sym q.joined

  -- what is said has one spelling
  pub one_spelling : (bs cs : List ℕ) (s : Said V) → Spelled form count bs s → Spelled form count cs s → bs ≡ cs
  one_spelling bs cs s p q = worded_once bs cs s p (record { words = q.words; values = q.values; joined = q.joined })

  pub unsaid : (e : Fault) (s : Said V) (before : List ℕ) → Refuses e ((ws : List (List ℕ)) → Values form count ws s → ⊥) → Refuses e ((bs : List ℕ) → Spelled form count bs s → length before < length bs)
  unsaid e s before h = refuses_map e _ _ (λ none bs p. absurd (none p.words p.values)) h

  pub too_long : (text before : List ℕ) (s : Said V) → Worded form count text s → ((1024 < length text) ⊎ (length before < length text)) → (bs : List ℕ) → Spelled form count bs s → length before < length bs
  too_long text before s w long bs p =
      let same = ap length (worded_once bs text s p w) in
      ⊎_elim (λ l. absurd (omega (arith, p.short))) (λ l. omega arith) long

  values-once : (ws : List (List ℕ)) (s t : Said V) → verb_of s ≡ verb_of t → Values form count ws s → Values form count ws t → s ≡ t
  values-once ws (binds cs q) t e x = as-bind (λ t. Values form count ws t → binds cs q ≡ t) (λ ds r y.
      let long : length x.0 ≡ length y.0 = omega (arith, each-length Number x.0 cs x.4, x.3, each-length Number y.0 ds y.4, y.3) in
      let parts = append-parts x.0 (x.1 ∷ []) y.0 (y.1 ∷ []) long (sym x.2 ∙ y.2) in
      let last : x.1 ≡ y.1 = let p = parts.1 in cc in
      let a = each-values Number number_laws y.0 cs ds (subst (λ l. Each Number l cs) parts.0 x.4) y.4 in
      let b = laws.one_value y.1 q r (subst (λ w. form w q) last x.5) y.5 in
      (λ i. binds (a i) (b i))) t (sym e)
  values-once ws (unbinds m) t e x = as-unbind (λ t. Values form count ws t → unbinds m ≡ t) (λ n y.
      let same : x.0 ≡ y.0 = let p = x.1 in let q = y.1 in cc in
      ap unbinds (number_laws.one_value y.0 m n (subst (λ w. Number w m) same x.2) y.2)) t (sym e)
  values-once ws (grips xs) t e x = as-grip (λ t. Values form count ws t → grips xs ≡ t) (λ ys y. ap grips (each-values CellForm cell_laws ws xs ys x.1 y.1)) t (sym e)
  values-once ws (pulls xs) t e x = as-pull (λ t. Values form count ws t → pulls xs ≡ t) (λ ys y. ap pulls (each-values form laws ws xs ys x.1 y.1)) t (sym e)
  values-once ws keeps t e x = as-keep (λ t. Values form count ws t → keeps ≡ t) (λ y. refl) t (sym e)
  values-once ws drops t e x = as-drop (λ t. Values form count ws t → drops ≡ t) (λ y. refl) t (sym e)

  -- the same bytes say the same
  pub one_reading : (bs : List ℕ) (s t : Said V) → Spelled form count bs s → Spelled form count bs t → s ≡ t
  one_reading bs s t p q =
      let first = pieces-joined 32 (verb_word (verb_of s)) p.words (verb_laws.spaceless (verb_of s)) (values_lack form laws count p.words s p.values) in
      let second = pieces-joined 32 (verb_word (verb_of t)) q.words (verb_laws.spaceless (verb_of t)) (values_lack form laws count q.words t q.values) in
      let all : (verb_word (verb_of s) ∷ p.words) ≡ (verb_word (verb_of t) ∷ q.words) = sym first ∙ ap (pieces 32) (same_from_push _ _ 10 10 (sym p.joined ∙ q.joined)).0 ∙ second in
      let word : verb_word (verb_of s) ≡ verb_word (verb_of t) = cc in
      let rest : p.words ≡ q.words = cc in
      values-once q.words s t (verb_laws.once (verb_of s) (verb_of t) word) (subst (λ ws. Values form count ws s) rest p.values) q.values

module _ {V : Type 0} (form : List ℕ → V → Type 0) (laws : Forms form) (count : ℕ) (s : Said V) where
  pub written : (text line before after : List ℕ) (r : Result ℕ Fault) → line ≡ text → Worded form count text s → Placed line before after r → LineWritten form count s before after r
  written text line before after (Ok n) e w p = (
    record { words = w.words; values = w.values; joined = p.0 ∙ e ∙ w.joined; short = subst (λ b. length b ≤ 1024) (sym p.0) p.3 },
    p.1,
    p.2,
  )
  written text line before after (Err x) e w p =
      let P : Fault → Type 0 = λ y. Refuses y ((bs : List ℕ) → Spelled form count bs s → length before < length bs) in
      (p.0, subst P (sym p.1) (too_long form laws count text before s w (subst (λ b. (1024 < length b) ⊎ (length before < length b)) e p.2)))

  same_copied : (line before after : List ℕ) (r : Result ℕ Fault) → Spelled form count line s → LineWritten form count s before after r → Copied form count line before after r
  same_copied line before after (Ok n) p h = ((s, p), one_spelling form laws count (take n after) line s h.0 p, h.1, h.2)
  same_copied line before after (Err e) p h = (h.0, refuses_map e _ _ (λ none t q. none line p) h.1)

  pub copied : (t : Said V) (line before after : List ℕ) (r : Result ℕ Fault) → Spelled form count line s → LineWritten form count t before after r → t ≡ s → Copied form count line before after r
  copied t line before after r p h e = let P : Said V → Type 0 = λ x. LineWritten form count x before after r in same_copied line before after r p (subst P e h)

  pub reread : (before after : List ℕ) (n : ℕ) (r : Result (Call V Cell) Fault) → LineWritten form count s before after (Ok n) → LineRead form count (take n after) r → Reread form count s before after r
  reread before after n (Ok x) p h = (one_reading form laws count (take n after) (said x) s h p.0, (n, p))
  reread before after n (Err x) p h = refuses_map x _ _ (λ no. absurd (no s p.0)) h
