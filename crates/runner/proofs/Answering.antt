-- Answers in the order of a card's lines.
use Rattle.std.proofs.Common.{◌≡◌, ℕ, ◌+◌, ◌<◌, Bool, true, false, List, [], ◌∷◌, ◌++◌, length, get_or, drop, map, Some, None, Err, Option, sym, ap, ◌∙◌, subst, append_assoc, arith}
use Rattle.std.proofs.lemmas.List.{drop_more, nil_from_length}
use Rattle.std.specs.Borrow.{Bor}
use Rattle.std.specs.Slice.Iter.{iter_steps}
use Rattle.std.specs.declared.slice.Iter.{Iter}
use Rattle.words.specs.Lines.{joined}
use Rattle.records.specs.declared.refusal.Refusal.TheVariants.{Form}
use Rattle.rules.specs.Values.{Coords}
use Rattle.rules.specs.Runs.{Reply}
use Rattle.calls.specs.Shown.{Answer, reply_of}
use Rattle.answers.specs.Texts.{answer_text}
use Rattle.runner.specs.Cards.{answered}

-- the lines of the answers
abbrev pub texts : List Bool → List Reply → List ℕ
texts marks replies = joined (map answer_text (answered marks replies))

module _ {K : Type 0} (f : K → Coords) (marks : List Bool) (i : ℕ) (inside : i < length marks) (left rest : List (Answer K)) (o₀ o₁ o₂ : List ℕ) (so : o₀ ≡ o₁ ++ texts (drop i marks) (map (reply_of f) left)) where
  marked : (b : Bool) → get_or marks i false ≡ b → drop i marks ≡ b ∷ drop (i + 1) marks
  marked b e = drop_more marks i false inside ∙ ap (λ x. x ∷ drop (i + 1) marks) e

  written : (reply : Reply) → answered (drop i marks) (map (reply_of f) left) ≡ reply ∷ answered (drop (i + 1) marks) (map (reply_of f) rest) → o₂ ≡ o₁ ++ answer_text reply
      → o₀ ≡ o₂ ++ texts (drop (i + 1) marks) (map (reply_of f) rest)
  written reply e h =
      let more = texts (drop (i + 1) marks) (map (reply_of f) rest) in
      so ∙ ap (λ rs. o₁ ++ joined (map answer_text rs)) e ∙ sym (append_assoc o₁ (answer_text reply) more) ∙ ap (λ o. o ++ more) (sym h)

  -- the line asked for a call, and its answer is the next one
  pub next_given : (a : Answer K) → get_or marks i false ≡ true → left ≡ a ∷ rest → o₂ ≡ o₁ ++ answer_text (reply_of f a) → o₀ ≡ o₂ ++ texts (drop (i + 1) marks) (map (reply_of f) rest)
  next_given a e l h = written (reply_of f a) (λ j. answered (marked true e j) (map (reply_of f) (l j))) h

  -- it asked for a call, and no answer is left
  pub none_left : get_or marks i false ≡ true → left ≡ [] → rest ≡ left → o₂ ≡ o₁ ++ answer_text (Err Form) → o₀ ≡ o₂ ++ texts (drop (i + 1) marks) (map (reply_of f) rest)
  none_left e l same h = written (Err Form) ((λ j. answered (marked true e j) (map (reply_of f) (l j))) ∙ ap (λ rs. Err Form ∷ answered (drop (i + 1) marks) (map (reply_of f) rs)) (sym l ∙ sym same)) h

  -- it asked for no call
  pub not_asked : get_or marks i false ≡ false → rest ≡ left → o₂ ≡ o₁ ++ answer_text (Err Form) → o₀ ≡ o₂ ++ texts (drop (i + 1) marks) (map (reply_of f) rest)
  not_asked e same h = written (Err Form) ((λ j. answered (marked false e j) (map (reply_of f) left)) ∙ ap (λ rs. Err Form ∷ answered (drop (i + 1) marks) (map (reply_of f) rs)) (sym same)) h

-- what an iterator over a slice gives
pub took : {A : Type 0} (s t : Iter A) (r : Option (Bor A)) (x : Bor A) → r ≡ Some x → iter_steps s r t → s.rest.now ≡ x.now ∷ t.rest.now
took s t r x e h = subst (λ r. iter_steps s r t) e h

pub ended : {A : Type 0} (s t : Iter A) (r : Option (Bor A)) → r ≡ None → iter_steps s r t → (s.rest.now ≡ []) × (t ≡ s)
ended s t r e h = let k = subst (λ r. iter_steps s r t) e h in (nil_from_length s.rest.now k.0, k.1)

pub apart : {A : Type 0} (r : Option A) (x : A) → r ≡ None → r ≡ Some x → ⊥
apart r x n e = let z : ◌≡◌ {A = ℕ} 0 1 = cc in omega arith
