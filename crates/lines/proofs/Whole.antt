-- A whole line: its bytes against its words.
use Rattle.std.proofs.Common.{◌≡◌, ℕ, ◌≤◌, List, [], ◌∷◌, ◌++◌, length, None, Ok, Err, Result, sym, refl, ap, ◌∙◌, subst, arith}
use Rattle.std.specs.List.{AllByRecursion as All}
use Rattle.std.proofs.slice.Lists.{all_by_recursion_push}
use Rattle.std.proofs.lemmas.List.{same_from_push}
use Rattle.words.specs.declared.fault.Fault.{Fault}
use Rattle.cells.specs.declared.verb.Verb.{Verb}
use Rattle.calls.specs.declared.call.Call.{Call}
use Rattle.cells.specs.declared.cell.Cell.{Cell}
use Rattle.words.specs.Numbers.{Number}
use Rattle.words.specs.Words.{joined_by, pieces}
use Rattle.words.specs.Lines.{Lacks, Lined}
use Rattle.forms.specs.Forms.{Forms, Visible}
use Rattle.forms.specs.Keywords.{KeywordRead}
use Rattle.cells.specs.Cells.{CellForm}
use Rattle.cells.specs.Verbs.{verb_word, verb_laws}
use Rattle.forms.specs.Rows.{Each}
use Rattle.words.proofs.Appends.{refuses_map}
use Rattle.words.proofs.Cuts.{joined-pieces, pieces-joined}
use Rattle.forms.specs.Laws.{number_laws}
use Rattle.cells.specs.Laws.{cell_laws}
use Rattle.lines.specs.Lines.{Said, binds, unbinds, grips, pulls, keeps, drops, verb_of, Values, Spelled, ReadBy, LineRead}

visible_lacks : (w : List ℕ) → Visible w → Lacks 32 w
visible_lacks w h k l e = omega (arith, h k l)

each_lacks : {U : Type 0} (form : List ℕ → U → Type 0) → Forms form → (ws : List (List ℕ)) (xs : List U) → Each form ws xs → All (Lacks 32) ws
each_lacks form laws [] [] e = tt
each_lacks form laws [] (x ∷ xs) e = absurd e
each_lacks form laws (w ∷ ws) [] e = absurd e
each_lacks form laws (w ∷ ws) (x ∷ xs) e = (visible_lacks w (laws.visible w x e.0), each_lacks form laws ws xs e.1)

module _ {V : Type 0} (form : List ℕ → V → Type 0) (laws : Forms form) (count : ℕ) where
  pub values_lack : (ws : List (List ℕ)) (s : Said V) → Values form count ws s → All (Lacks 32) ws
  values_lack ws (binds cs q) x = subst (All (Lacks 32)) (sym x.2) (all_by_recursion_push (Lacks 32) x.0 x.1 (each_lacks Number number_laws x.0 cs x.4) (visible_lacks x.1 (laws.visible x.1 q x.5)))
  values_lack ws (unbinds n) x = subst (All (Lacks 32)) (sym x.1) (visible_lacks x.0 (number_laws.visible x.0 n x.2), tt)
  values_lack ws (grips cells) x = each_lacks CellForm cell_laws ws cells x.1
  values_lack ws (pulls xs) x = each_lacks form laws ws xs x.1
  values_lack ws keeps x = subst (All (Lacks 32)) (sym x) tt
  values_lack ws drops x = subst (All (Lacks 32)) (sym x) tt

  -- the words of a line are the pieces of its bytes
  pub spelled_words : (text : List ℕ) (s : Said V) (p : Spelled form count (text ++ 10 ∷ []) s) → pieces 32 text ≡ verb_word (verb_of s) ∷ p.words
  spelled_words text s p =
      ap (pieces 32) (same_from_push text _ 10 10 p.joined).0 ∙ pieces-joined 32 (verb_word (verb_of s)) p.words (verb_laws.spaceless (verb_of s)) (values_lack p.words s p.values)

-- bytes that are no line whose first word names a call spell nothing
pub no_line : {V : Type 0} (form : List ℕ → V → Type 0) (laws : Forms form) (count : ℕ) (bs : List ℕ) → KeywordRead verb_word bs None → (s : Said V) → Spelled form count bs s → ⊥
no_line form laws count bs none s p =
    let text = joined_by 32 (verb_word (verb_of s) ∷ p.words) in
    none text (verb_of s) p.words (record { whole = p.joined; short = p.short }) (spelled_words form laws count text s (at_text p))
  where
    at_text : (p : Spelled form count bs s) → Spelled form count (joined_by 32 (verb_word (verb_of s) ∷ p.words) ++ 10 ∷ []) s
    at_text p = record { words = p.words; values = p.values; joined = refl; short = subst (λ b. length b ≤ 1024) p.joined p.short }

module _ {V : Type 0} (form : List ℕ → V → Type 0) (laws : Forms form) (count : ℕ) (bs text : List ℕ) (after : List (List ℕ)) (verb : Verb) (line : Lined bs text) (words : pieces 32 text ≡ verb_word verb ∷ after) where
  pub line_done : (r : Result (Call V Cell) Fault) → ReadBy form count verb after r → LineRead form count bs r
  line_done (Ok x) h = record {
    words = after;
    values = h.1;
    joined = line.whole ∙ ap (λ t. t ++ 10 ∷ []) (sym (joined-pieces 32 text) ∙ ap (joined_by 32) (words ∙ ap (λ w. verb_word w ∷ after) (sym h.0)));
    short = line.short;
  }
  line_done (Err e) h =
      refuses_map e _ _ (λ none s p.
      let same : verb_word (verb_of s) ∷ p.words ≡ verb_word verb ∷ after = sym (spelled_words form laws count text s (at_text s p)) ∙ words in
      let word : verb_word (verb_of s) ≡ verb_word verb = cc in
      let rest : p.words ≡ after = cc in
      none s (verb_laws.once (verb_of s) verb word) (subst (λ ws. Values form count ws s) rest p.values)) h
    where
      at_text : (s : Said V) → (p : Spelled form count bs s) → Spelled form count (text ++ 10 ∷ []) s
      at_text s p = record { words = p.words; values = p.values; joined = sym line.whole ∙ p.joined; short = subst (λ b. length b ≤ 1024) line.whole p.short }
