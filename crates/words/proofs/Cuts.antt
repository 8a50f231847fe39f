-- Bytes cut at a byte, and joined again.
use Rattle.std.proofs.Common.{◌≡◌, ℕ, zero, suc, ◌+◌, ◌<◌, ◌≤◌, Bool, true, false, cond, eqb, ltb, Some, None, List, [], ◌∷◌, ◌++◌, length, get_or, take, drop, add-one, lt-ltb, MatchBool, sym, refl, ap, ◌∙◌, subst, ⊎_elim, append_assoc, append-nil, arith, is_none}
use Rattle.std.proofs.lemmas.List.{take_at, take_more, drop_at}
use Rattle.std.proofs.lemmas.Bool.{cond-true, cond-false, eq-eqb, ne_eqb, eqb-true, eqb-false, cases_eq, cases_order}
use Rattle.std.proofs.lemmas.List.Sums.{fails_before_first}
use Rattle.std.proofs.lemmas.List.Quantifiers.{position-Some}
use Rattle.std.specs.List.{position, position_or_len}
use Rattle.std.specs.List.{AllByRecursion as All}
use Rattle.words.specs.Words.{joined_by, spaced, on_first, pieces}
use Rattle.words.specs.Reading.{words_of}
use Rattle.words.specs.Lines.{Lacks, TextOf}
use Rattle.std.specs.Borrow.{Bor}
use Rattle.std.specs.Option.{MatchOption}
use Rattle.std.proofs.Common.{Option}

-- the first piece ends at the first s
pieces_more : (s : ℕ) (xs : List ℕ) (n : ℕ) → n < length xs → ((k : ℕ) → k < n → get_or xs k 0 ≡ s → ⊥) → get_or xs n 0 ≡ s → pieces s xs ≡ take n xs ∷ pieces s (drop (suc n) xs)
pieces_more s [] n l h e = absurd (omega arith)
pieces_more s (b ∷ bs) zero l h e = cond-true (eqb b s) _ _ (eq-eqb b s e)
pieces_more s (b ∷ bs) (suc n) l h e =
    cond-false (eqb b s) _ _ (ne_eqb b s (h 0 (omega arith))) ∙ ap (on_first b) (pieces_more s bs n (omega arith) (λ k kl. h (suc k) (omega arith)) e)

pieces_last : (s : ℕ) (xs : List ℕ) → ((k : ℕ) → k < length xs → get_or xs k 0 ≡ s → ⊥) → pieces s xs ≡ xs ∷ []
pieces_last s [] h = refl
pieces_last s (b ∷ bs) h =
    cond-false (eqb b s) _ _ (ne_eqb b s (h 0 (omega arith))) ∙ ap (on_first b) (pieces_last s bs (λ k l. h (suc k) (omega arith)))

-- what the place of the first s tells, and what it tells that there is none
pub first_at : (s : ℕ) (xs : List ℕ) (n : ℕ) → position (λ b. eqb b s) xs ≡ Some n → (n < length xs) × (get_or xs n 0 ≡ s) × ((k : ℕ) → k < n → get_or xs k 0 ≡ s → ⊥)
first_at s xs n e =
    let h = position-Some (λ b. eqb b s) xs n 0 e in
    (h.0, eqb-true _ s h.1, λ k l. eqb-false _ s (h.2 k l))

pub nowhere : (s : ℕ) (xs : List ℕ) → position (λ b. eqb b s) xs ≡ None → Lacks s xs
nowhere s xs e k l = eqb-false _ s (fails_before_first (λ b. eqb b s) xs k 0 (past (position_or_len (λ b. eqb b s) xs) (length xs) e l))
  where
    past : (m n : ℕ) → cond (ltb m n) (Some m) None ≡ None → k < n → k < m
    past m n e l =
        ⊎_elim
        (λ q. omega arith)
        (λ o. ⊎_elim (λ h. absurd (let z : Some m ≡ None = sym (cond-true (ltb m n) (Some m) None (lt-ltb m n h)) ∙ e in cc)) (λ h. omega arith) o)
        (cases_order m n)

-- the first word of a text, and the words behind it
pub first_piece : (s : ℕ) (xs : List ℕ) (n : ℕ) → position (λ b. eqb b s) xs ≡ Some n → pieces s xs ≡ take n xs ∷ pieces s (drop (n + 1) xs)
first_piece s xs n e = let h = first_at s xs n e in rw add-one (pieces_more s xs n h.0 h.2 h.1)

pub only_piece : (s : ℕ) (xs : List ℕ) → position (λ b. eqb b s) xs ≡ None → pieces s xs ≡ xs ∷ []
only_piece s xs e = pieces_last s xs (nowhere s xs e)

-- joining the pieces gives the bytes back
joined-on_first : (s b : ℕ) (ws : List (List ℕ)) → joined_by s (on_first b ws) ≡ b ∷ joined_by s ws
joined-on_first s b [] = refl
joined-on_first s b (w ∷ []) = refl
joined-on_first s b (w ∷ v ∷ ws) = refl

on_first-some : (b : ℕ) (ws : List (List ℕ)) → on_first b ws ≡ [] → ⊥
on_first-some b [] e = omega (arith, ap length e)
on_first-some b (w ∷ ws) e = omega (arith, ap length e)

pub pieces-some : (s : ℕ) (bs : List ℕ) → pieces s bs ≡ [] → ⊥
pieces-some s [] e = omega (arith, ap length e)
pieces-some s (b ∷ bs) e = by (eqb b s) e
  where
    by : (t : Bool) → cond t ([] ∷ pieces s bs) (on_first b (pieces s bs)) ≡ [] → ⊥
    by true e = omega (arith, ap length e)
    by false e = on_first-some b (pieces s bs) e

-- no words are left exactly where no text is
pub ended_tells : (t : Bool) (r : Option (Bor (List ℕ))) → t ≡ is_none r → MatchBool t (words_of r ≡ []) (words_of r ≡ [] → ⊥)
ended_tells t r e = let P : Bool → Type 0 = λ b. MatchBool b (words_of r ≡ []) (words_of r ≡ [] → ⊥) in subst P (sym e) (told r)
  where
    told : (r : Option (Bor (List ℕ))) → MatchBool (is_none r) (words_of r ≡ []) (words_of r ≡ [] → ⊥)
    told None = refl
    told (Some text) = pieces-some 32 text.now

joined-first : (s : ℕ) (ws : List (List ℕ)) → (ws ≡ [] → ⊥) → joined_by s ([] ∷ ws) ≡ s ∷ joined_by s ws
joined-first s [] h = absurd (h refl)
joined-first s (w ∷ ws) h = refl

pub joined-pieces : (s : ℕ) (bs : List ℕ) → joined_by s (pieces s bs) ≡ bs
joined-pieces s [] = refl
joined-pieces s (b ∷ bs) =
    ⊎_elim
    (λ e. ap (joined_by s) (cond-true (eqb b s) _ _ (eq-eqb b s e)) ∙ joined-first s (pieces s bs) (pieces-some s bs) ∙ ap (λ x. x ∷ joined_by s (pieces s bs)) (sym e) ∙ ap (λ xs. b ∷ xs) (joined-pieces s bs))
    (λ e. ap (joined_by s) (cond-false (eqb b s) _ _ (ne_eqb b s e)) ∙ joined-on_first s b (pieces s bs) ∙ ap (λ xs. b ∷ xs) (joined-pieces s bs))
    (cases_eq b s)

-- words that lack s come out of the joined bytes again
pub first_out : (s : ℕ) (w rest : List ℕ) → Lacks s w → pieces s (w ++ s ∷ rest) ≡ w ∷ pieces s rest
first_out s [] rest h = cond-true (eqb s s) _ _ (eq-eqb s s refl)
first_out s (b ∷ w) rest h =
    cond-false (eqb b s) _ _ (ne_eqb b s (h 0 (omega arith))) ∙ ap (on_first b) (first_out s w rest (λ k l. h (suc k) (omega arith)))

pub pieces-joined : (s : ℕ) (w : List ℕ) (ws : List (List ℕ)) → Lacks s w → All (Lacks s) ws → pieces s (joined_by s (w ∷ ws)) ≡ w ∷ ws
pieces-joined s w [] h all = pieces_last s w h
pieces-joined s w (v ∷ ws) h all = first_out s w (joined_by s (v ∷ ws)) h ∙ ap (λ l. w ∷ l) (pieces-joined s v ws all.0 all.1)

-- the bytes before byte 10, or that the bytes do not end so
pub text_told : (line : List ℕ) (r : Option (Bor (List ℕ))) → length line ≤ 1024 → MatchOption r ((front : List ℕ) → line ≡ front ++ 10 ∷ [] → ⊥) (λ x. line ≡ x.now ++ 10 ∷ []) → TextOf line r
text_told line (Some text) s h = record { whole = h; short = s }
text_told line None s h = λ text l. h text l.whole

-- bytes above the space
pub lacks_all : (w : List ℕ) → All (λ b. 32 < b) w → Lacks 32 w
lacks_all [] a k l e = omega arith
lacks_all (b ∷ w) a zero l e = omega (arith, a.0)
lacks_all (b ∷ w) a (suc k) l e = lacks_all w a.1 k (omega arith) e

-- words each behind a space
pub spaced-append : (us ws : List (List ℕ)) → spaced (us ++ ws) ≡ spaced us ++ spaced ws
spaced-append [] ws = refl
spaced-append (u ∷ us) ws = ap (λ l. 32 ∷ l) (ap (λ l. u ++ l) (spaced-append us ws) ∙ sym (append_assoc u (spaced us) (spaced ws)))

-- one word more, behind a space
pub spaced_more : (ws : List (List ℕ)) (i : ℕ) (w t₀ t₁ t₂ t₃ : List ℕ) (d : ℕ) → i < length ws → get_or ws i [] ≡ w → t₁ ≡ t₀ ++ spaced (take i ws) → t₂ ≡ t₁ ++ d ∷ [] → d ≡ 32 → t₃ ≡ t₂ ++ w → t₃ ≡ t₀ ++ spaced (take (i + 1) ws)
spaced_more ws i w t₀ t₁ t₂ t₃ d l e a b is h =
    let last : spaced (take (i + 1) ws) ≡ spaced (take i ws) ++ 32 ∷ w = ap spaced (take_more ws i [] l ∙ ap (λ x. take i ws ++ x ∷ []) e) ∙ spaced-append (take i ws) (w ∷ []) ∙ ap (λ x. spaced (take i ws) ++ 32 ∷ x) (append-nil w) in
    h ∙ ap (λ t. t ++ w) (b ∙ (λ j. a j ++ is j ∷ [])) ∙ append_assoc (t₀ ++ spaced (take i ws)) (32 ∷ []) w ∙ append_assoc t₀ (spaced (take i ws)) (32 ∷ w) ∙ ap (λ x. t₀ ++ x) (sym last)

pub joined-spaced : (w : List ℕ) (ws : List (List ℕ)) → joined_by 32 (w ∷ ws) ≡ w ++ spaced ws
joined-spaced w [] = sym (append-nil w)
joined-spaced w (v ∷ ws) = ap (λ l. w ++ 32 ∷ l) (joined-spaced v ws)

-- what a copy to the front leaves
pub placed : (put line rest : List ℕ) → put ≡ line → (take (length line) (put ++ rest) ≡ line) × (drop (length line) (put ++ rest) ≡ rest)
placed put line rest e = let long : length put ≡ length line = ap length e in (take_at put rest _ long ∙ e, drop_at put rest _ long)
