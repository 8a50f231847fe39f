-- Rows of texts, one text longer.
use Rattle.std.proofs.Common.{◌≡◌, ℕ, zero, suc, ◌+◌, ◌<◌, List, [], ◌∷◌, ◌++◌, length, get_or, take, map, length-take, ℤ, pos, Ok, Err, Result, sym, refl, ap, ◌∙◌, append_assoc, append-nil, arith}
use Rattle.std.specs.Fmt.{signed_decimal}
use Rattle.std.proofs.lemmas.List.{take_more, take-map, get_or-map, map-append, length-map}
use Rattle.words.specs.Words.{joined_by, spaced}
use Rattle.words.proofs.Cuts.{spaced_more}
use Rattle.words.specs.declared.fault.Fault.{Fault}
use Rattle.words.specs.Faults.{Done}
use Rattle.rules.specs.Values.{Coords}
use Rattle.rules.specs.Runs.{placing}
use Rattle.calls.specs.declared.answer.Given.{Given}
use Rattle.calls.specs.Shown.{given_of}
use Rattle.answers.specs.Texts.{value_text, given_words}

module _ {A : Type 0} (f : A → List ℕ) where
  -- the first i texts, and the next one behind a space
  pub one_more : (xs : List A) (i : ℕ) (x : A) (t₀ t₁ t₂ t₃ : List ℕ) (d : ℕ) → i < length xs → x ≡ get_or xs i x
      → t₁ ≡ t₀ ++ spaced (map f (take i xs)) → t₂ ≡ t₁ ++ d ∷ [] → d ≡ 32 → t₃ ≡ t₂ ++ f x → t₃ ≡ t₀ ++ spaced (map f (take (i + 1) xs))
  one_more xs i x t₀ t₁ t₂ t₃ d l e a b is h =
      let row = λ (ws : List (List ℕ)). t₀ ++ spaced ws in
      let inside : i < length (map f xs) = omega (arith, length-map xs f) in
      spaced_more (map f xs) i (f x) t₀ t₁ t₂ t₃ d inside (get_or-map f xs i x [] l ∙ ap f (sym e)) (a ∙ ap row (sym (take-map f i xs))) b is h ∙ ap row (take-map f (i + 1) xs)

joined_more : (s : ℕ) (ws : List (List ℕ)) (w : List ℕ) → 0 < length ws → joined_by s (ws ++ w ∷ []) ≡ joined_by s ws ++ s ∷ w
joined_more s [] w l = absurd (omega arith)
joined_more s (v ∷ []) w l = refl
joined_more s (v ∷ u ∷ ws) w l = ap (λ y. v ++ s ∷ y) (joined_more s (u ∷ ws) w (omega arith)) ∙ sym (append_assoc v (s ∷ joined_by s (u ∷ ws)) (s ∷ w))

module _ (cs : List ℤ) (k : ℕ) (n : ℤ) (inside : k < length cs) (is : n ≡ get_or cs k (pos 0)) where
  coordinates : map signed_decimal (take (k + 1) cs) ≡ map signed_decimal (take k cs) ++ signed_decimal n ∷ []
  coordinates = ap (map signed_decimal) (take_more cs k (pos 0) inside ∙ ap (λ y. take k cs ++ y ∷ []) (sym is)) ∙ map-append signed_decimal (take k cs) (n ∷ [])

  -- the first coordinate
  pub first_coordinate : (t₀ t₁ t₂ : List ℕ) → (0 < k → ⊥) → t₁ ≡ t₀ ++ value_text (take k cs) → t₂ ≡ t₁ ++ signed_decimal n → t₂ ≡ t₀ ++ value_text (take (k + 1) cs)
  first_coordinate t₀ t₁ t₂ none a h = first k none coordinates a
    where
      first : (k : ℕ) → (0 < k → ⊥) → map signed_decimal (take (k + 1) cs) ≡ map signed_decimal (take k cs) ++ signed_decimal n ∷ [] → t₁ ≡ t₀ ++ value_text (take k cs) → t₂ ≡ t₀ ++ value_text (take (k + 1) cs)
      first zero none e a = h ∙ ap (λ y. y ++ signed_decimal n) (a ∙ append-nil t₀) ∙ ap (λ y. t₀ ++ joined_by 44 y) (sym e)
      first (suc k) none e a = absurd (none (omega arith))

  -- one coordinate more, behind a comma
  pub next_coordinate : (t₀ t₁ t₂ t₃ : List ℕ) (d : ℕ) → 0 < k → t₁ ≡ t₀ ++ value_text (take k cs) → t₂ ≡ t₁ ++ d ∷ [] → d ≡ 44 → t₃ ≡ t₂ ++ signed_decimal n → t₃ ≡ t₀ ++ value_text (take (k + 1) cs)
  next_coordinate t₀ t₁ t₂ t₃ d some a b comma h =
      let front = map signed_decimal (take k cs) in
      let long : 0 < length front = omega (arith, length-map (take k cs) signed_decimal, length-take k cs) in
      let row : value_text (take (k + 1) cs) ≡ value_text (take k cs) ++ 44 ∷ signed_decimal n = ap (joined_by 44) coordinates ∙ joined_more 44 front (signed_decimal n) long in
      h ∙ ap (λ y. y ++ signed_decimal n) (b ∙ (λ j. a j ++ comma j ∷ [])) ∙ append_assoc (t₀ ++ value_text (take k cs)) (44 ∷ []) (signed_decimal n) ∙ append_assoc t₀ (value_text (take k cs)) (44 ∷ signed_decimal n) ∙ ap (λ y. t₀ ++ y) (sym row)

twice : {A B C : Type 0} (g : B → C) (f : A → B) (xs : List A) → map g (map f xs) ≡ map (λ x. g (f x)) xs
twice g f [] = refl
twice g f (x ∷ xs) = ap (λ ys. g (f x) ∷ ys) (twice g f xs)

module _ {K : Type 0} (f : K → Coords) where
  -- a denominator and numerators, each behind a space
  pub placing_put : (r : Result (Unit {0}) Fault) (given : Given K) (d e : ℤ) (vs : List K) (t₀ t₁ t₂ t₃ : List ℕ) (b : ℕ) → given_of f given ≡ placing (record { over = d; nums = map f vs }) → e ≡ d
      → t₁ ≡ t₀ ++ b ∷ [] → b ≡ 32 → t₂ ≡ t₁ ++ signed_decimal e → Done r (t₃ ≡ t₂ ++ spaced (map (λ v. value_text (f v)) vs)) → Done r (t₃ ≡ t₀ ++ spaced (given_words (given_of f given)))
  placing_put (Ok x) given d e vs t₀ t₁ t₂ t₃ b is same a space c h =
      let words : given_words (given_of f given) ≡ signed_decimal e ∷ map (λ v. value_text (f v)) vs =
      ap given_words is ∙ (λ j. signed_decimal (sym same j) ∷ twice value_text f vs j) in
      let row = map (λ v. value_text (f v)) vs in
      h ∙ ap (λ y. y ++ spaced row) (c ∙ ap (λ y. y ++ signed_decimal e) (a ∙ ap (λ y. t₀ ++ y ∷ []) space)) ∙ append_assoc (t₀ ++ 32 ∷ []) (signed_decimal e) (spaced row) ∙ append_assoc t₀ (32 ∷ []) (signed_decimal e ++ spaced row) ∙ ap (λ y. t₀ ++ spaced y) (sym words)
  placing_put (Err x) given d e vs t₀ t₁ t₂ t₃ b is same a space c h = h
