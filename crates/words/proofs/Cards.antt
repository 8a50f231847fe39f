-- A card cut behind each byte 10.
use Rattle.std.proofs.Common.{◌≡◌, ℕ, zero, suc, ◌+◌, ◌<◌, eqb, List, [], ◌∷◌, length, get_or, take, drop, add-one, Some, None, sym, refl, ap, ◌∙◌, subst, inl, inr, ⊎_elim, arith}
use Rattle.std.proofs.lemmas.List.{take_all, drop_all}
use Rattle.std.specs.List.{position}
use Rattle.words.proofs.Cuts.{first_at, nowhere}
use Rattle.std.proofs.lemmas.Bool.{cond-true, cond-false, eq-eqb, ne_eqb, cases_eq}
use Rattle.words.specs.Words.{on_first}
use Rattle.words.specs.Lines.{lines, Lacks, joined, Whole, Parted, Cuts}

-- the first line ends at the first byte 10
lines_more : (xs : List ℕ) (n : ℕ) → n < length xs → ((k : ℕ) → k < n → get_or xs k 0 ≡ 10 → ⊥) → get_or xs n 0 ≡ 10 → lines xs ≡ take (suc n) xs ∷ lines (drop (suc n) xs)
lines_more [] n l h e = absurd (omega arith)
lines_more (b ∷ bs) zero l h e = cond-true (eqb b 10) _ _ (eq-eqb b 10 e)
lines_more (b ∷ bs) (suc n) l h e =
    cond-false (eqb b 10) _ _ (ne_eqb b 10 (h 0 (omega arith))) ∙ ap (on_first b) (lines_more bs n (omega arith) (λ k kl. h (suc k) (omega arith)) e)

lines_last : (b : ℕ) (bs : List ℕ) → Lacks 10 (b ∷ bs) → lines (b ∷ bs) ≡ (b ∷ bs) ∷ []
lines_last b [] h = cond-false (eqb b 10) _ _ (ne_eqb b 10 (h 0 (omega arith)))
lines_last b (c ∷ bs) h =
    cond-false (eqb b 10) _ _ (ne_eqb b 10 (h 0 (omega arith))) ∙ ap (on_first b) (lines_last c bs (λ k l. h (suc k) (omega arith)))

lines_rest : (xs : List ℕ) → 0 < length xs → Lacks 10 xs → lines xs ≡ xs ∷ []
lines_rest [] l h = absurd (omega arith)
lines_rest (b ∷ bs) l h = lines_last b bs h

-- the first line of a card, and what is left
pub line_inner : (card : List ℕ) (n : ℕ) → position (λ b. eqb b 10) card ≡ Some n → lines card ≡ take (n + 1) card ∷ lines (drop (n + 1) card)
line_inner card n e = let h = first_at 10 card n e in rw add-one (lines_more card n h.0 h.2 h.1)

pub line_last : (card : List ℕ) → (length card ≡ 0 → ⊥) → position (λ b. eqb b 10) card ≡ None → lines card ≡ take (length card) card ∷ lines (drop (length card) card)
line_last card some e =
    lines_rest card (omega arith) (nowhere 10 card e)
    ∙ (λ i. sym (take_all (length card) card (omega arith)) i ∷ sym (ap lines (drop_all (length card) card (omega arith))) i)

-- the laws of the cut
joined-on_first : (b : ℕ) (ws : List (List ℕ)) → joined (on_first b ws) ≡ b ∷ joined ws
joined-on_first b [] = refl
joined-on_first b (w ∷ ws) = refl

lacks_one : (b : ℕ) (w : List ℕ) → (b ≡ 10 → ⊥) → Lacks 10 w → Lacks 10 (b ∷ w)
lacks_one b w n h zero l e = n e
lacks_one b w n h (suc k) l e = h k (omega arith) e

whole_more : (b : ℕ) (w : List ℕ) → (b ≡ 10 → ⊥) → Whole w → Whole (b ∷ w)
whole_more b w n h = (b ∷ h.0, ap (λ l. b ∷ l) h.1, lacks_one b h.0 n h.2)

parted_first : (b : ℕ) (ws : List (List ℕ)) → (b ≡ 10 → ⊥) → Parted ws → Parted (on_first b ws)
parted_first b [] n h = inr (omega arith, lacks_one b [] n (λ k l e. omega arith))
parted_first b (w ∷ []) n h = ⊎_elim (λ x. inl (whole_more b w n x)) (λ x. inr (omega arith, lacks_one b w n x.1)) h
parted_first b (w ∷ v ∷ ws) n h = (whole_more b w n h.0, h.1)

alone : (b : ℕ) → b ≡ 10 → Whole (b ∷ [])
alone b e = ([], ap (λ x. x ∷ []) e, λ k l z. omega arith)

parted_alone : (b : ℕ) (ws : List (List ℕ)) → b ≡ 10 → Parted ws → Parted ((b ∷ []) ∷ ws)
parted_alone b [] e h = inl (alone b e)
parted_alone b (w ∷ ws) e h = (alone b e, h)

pub cuts : Cuts
cuts [] = (refl, tt)
cuts (b ∷ bs) =
    let more = cuts bs in
    ⊎_elim
    (λ e. let here = cond-true (eqb b 10) ((b ∷ []) ∷ lines bs) (on_first b (lines bs)) (eq-eqb b 10 e) in (ap joined here ∙ ap (λ l. b ∷ l) more.0, subst Parted (sym here) (parted_alone b (lines bs) e more.1)))
    (λ e. let here = cond-false (eqb b 10) ((b ∷ []) ∷ lines bs) (on_first b (lines bs)) (ne_eqb b 10 e) in (ap joined here ∙ joined-on_first b (lines bs) ∙ ap (λ l. b ∷ l) more.0, subst Parted (sym here) (parted_first b (lines bs) e more.1)))
    (cases_eq b 10)
