-- Words beside the values that they write.
use Rattle.std.proofs.Common.{◌≡◌, ℕ, zero, suc, ◌+◌, ◌<◌, List, [], ◌∷◌, ◌++◌, length, get_or, Some, None, sym, refl, ap, ◌∙◌, subst, append_assoc, append-nil, arith, length-append}
use Rattle.std.proofs.lemmas.List.{get_or_at, get_or_append_left, length_push}
use Rattle.forms.specs.Rows.{Each, OneRead, Row}

module _ {V : Type 0} (form : List ℕ → V → Type 0) where
  pub each-length : (ws : List (List ℕ)) (xs : List V) → Each form ws xs → length ws ≡ length xs
  each-length [] [] e = refl
  each-length [] (x ∷ xs) e = absurd e
  each-length (w ∷ ws) [] e = absurd e
  each-length (w ∷ ws) (x ∷ xs) e = ap suc (each-length ws xs e.1)

  pub each_push : (ws : List (List ℕ)) (xs : List V) (w : List ℕ) (x : V) → Each form ws xs → form w x → Each form (ws ++ w ∷ []) (xs ++ x ∷ [])
  each_push [] [] w x e f = (f, tt)
  each_push [] (y ∷ xs) w x e f = absurd e
  each_push (v ∷ ws) [] w x e f = absurd e
  each_push (v ∷ ws) (y ∷ xs) w x e f = (e.0, each_push ws xs w x e.1 f)

  pub each_at : (ws : List (List ℕ)) (xs : List V) (i : ℕ) → Each form ws xs → i < length ws → (x : V) × form (get_or ws i []) x
  each_at [] xs i e l = absurd (omega arith)
  each_at (w ∷ ws) [] i e l = absurd e
  each_at (w ∷ ws) (x ∷ xs) zero e l = (x, e.0)
  each_at (w ∷ ws) (x ∷ xs) (suc i) e l = each_at ws xs i e.1 (omega arith)

  -- one value more
  pub one_more : (i : ℕ) (before middle after : List (List ℕ)) (xs ys : List V) (x : V) → ys ≡ xs ++ x ∷ [] → Row form i before middle xs → OneRead form middle after (Some x) → Row form (i + 1) before after ys
  one_more i before middle after xs ys x e m o = (
    m.0 ++ o.0 ∷ [],
    m.1 ∙ ap (λ l. m.0 ++ l) o.1 ∙ sym (append_assoc m.0 (o.0 ∷ []) after),
    ap length e ∙ length_push xs x ∙ ap (λ n. n + 1) m.2,
    subst (Each form (m.0 ++ o.0 ∷ [])) (sym e) (each_push m.0 xs o.0 x m.3 o.2),
  )

  -- a word that writes no value stops them all
  pub no_more : (i count : ℕ) (before middle after : List (List ℕ)) (xs : List V) → i < count → Row form i before middle xs → OneRead form middle after None → (rest : List (List ℕ)) (ys : List V) → Row form count before rest ys → ⊥
  no_more i count before [] after xs l m o rest ys h =
      omega (arith, each-length m.0 xs m.3, m.2, each-length h.0 ys h.3, h.2, ap length (m.1 ∙ append-nil m.0), ap length h.1, length-append h.0 rest)
  no_more i count before (w ∷ middle) after xs l m o rest ys h =
      let long = each-length m.0 xs m.3 in
      let wide = each-length h.0 ys h.3 in
      let inside : i < length h.0 = omega (arith, h.2) in
      let here : get_or before i [] ≡ w = ap (λ ws. get_or ws i []) m.1 ∙ get_or_at m.0 w middle [] i (long ∙ m.2) in
      let there : get_or before i [] ≡ get_or h.0 i [] = ap (λ ws. get_or ws i []) h.1 ∙ get_or_append_left h.0 rest [] i inside in
      let told = each_at h.0 ys i h.3 inside in
      o w middle told.0 refl (subst (λ v. form v told.0) (sym there ∙ here) told.1)
