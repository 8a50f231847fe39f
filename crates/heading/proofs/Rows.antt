-- Names read one after the other.
use Rattle.std.proofs.Common.{◌≡◌, ℕ, zero, suc, ◌+◌, ◌<◌, ◌≤◌, false, List, [], ◌∷◌, ◌++◌, length, get_or, None, vec_items, vec_len, Decides, Vec, sym, refl, ap, ◌∙◌, subst, ⊎_elim, append_assoc, append-nil, arith, length-append, Bor}
use Rattle.std.proofs.lemmas.Bool.{false≢true, cases_lt}
use Rattle.std.specs.List.{list_any}
use Rattle.std.proofs.Common.{Bool, true, ◌||◌, take, length-take-le}
use Rattle.std.proofs.lemmas.List.{get_or_at, get_or_append_left, length_push}
use Rattle.heading.specs.Names.{Named, Names, Has, NameRead, texts}

pub length-texts : (xs : List (Bor (List ℕ))) → length (texts xs) ≡ length xs
length-texts [] = refl
length-texts (x ∷ xs) = ap suc (length-texts xs)

pub texts-at : (xs : List (Bor (List ℕ))) (i : ℕ) (d : Bor (List ℕ)) → i < length xs → get_or (texts xs) i [] ≡ (get_or xs i d).now
texts-at [] i d l = absurd (omega arith)
texts-at (x ∷ xs) zero d l = refl
texts-at (x ∷ xs) (suc i) d l = texts-at xs i d (omega arith)

pub texts_push : (xs : List (Bor (List ℕ))) (x : Bor (List ℕ)) → texts (xs ++ x ∷ []) ≡ texts xs ++ x.now ∷ []
texts_push [] x = refl
texts_push (y ∷ xs) x = ap (λ l. y.now ∷ l) (texts_push xs x)

pub vec_texts : {G : Type 0} (v : Vec (Bor (List ℕ)) G) → length (texts (vec_items v)) ≡ vec_len v
vec_texts v = length-texts (vec_items v) ∙ sym v.ok.0

-- a test of the words that tells which are the name tells whether the name is among them
pub has_told : (E : Bor (List ℕ) → Bool) (w : List ℕ) → ((x : Bor (List ℕ)) → Decides (E x) (x.now ≡ w)) → (xs : List (Bor (List ℕ))) → Decides (list_any E xs) (Has (texts xs) (length xs) w)
has_told E w is [] = (λ e. absurd (false≢true e), λ h. absurd (omega (arith, h.1)))
has_told E w is (x ∷ xs) = by (E x) (is x) (list_any E xs) (has_told E w is xs)
  where
    later : (r : Bool) → Decides r (Has (texts xs) (length xs) w) → (x.now ≡ w → ⊥) → Decides r (Has (texts (x ∷ xs)) (length (x ∷ xs)) w)
    later r h n = (λ e. let f = h.0 e in (suc f.0, omega (arith, f.1), omega (arith, f.2), f.3), λ f. back f.0 f.1 f.2 f.3)
      where
        back : (i : ℕ) → i < length (x ∷ xs) → i < length (texts (x ∷ xs)) → get_or (texts (x ∷ xs)) i [] ≡ w → r ≡ true
        back zero l m e = absurd (n e)
        back (suc i) l m e = h.1 (i, omega arith, omega arith, e)

    by : (b : Bool) → Decides b (x.now ≡ w) → (r : Bool) → Decides r (Has (texts xs) (length xs) w) → Decides (b || r) (Has (texts (x ∷ xs)) (length (x ∷ xs)) w)
    by true d r h = (λ e. (0, omega arith, omega arith, d.0 refl), λ f. refl)
    by false d r h = later r h (λ e. false≢true (d.1 e))

front_at : (xs : List (Bor (List ℕ))) (i k : ℕ) → k < i → get_or (texts (take i xs)) k [] ≡ get_or (texts xs) k []
front_at xs zero k l = absurd (omega arith)
front_at [] (suc i) k l = refl
front_at (x ∷ xs) (suc i) zero l = refl
front_at (x ∷ xs) (suc i) (suc k) l = front_at xs i k (omega arith)

-- among the first i words of a list
pub has_front : (xs : List (Bor (List ℕ))) (i : ℕ) (w : List ℕ) (r : Bool) → i ≤ length xs → Decides r (Has (texts (take i xs)) (length (take i xs)) w) → Decides r (Has (texts xs) i w)
has_front xs i w r l d =
    let few = length-take-le i xs l in
    let all = length-texts xs in
    let front = length-texts (take i xs) in
    (λ e. let h = d.0 e in (h.0, omega (arith, h.1), omega (arith, h.1), sym (front_at xs i h.0 (omega (arith, h.1))) ∙ h.3), λ h. d.1 (h.0, omega (arith, h.1), omega (arith, h.1), front_at xs i h.0 h.1 ∙ h.3))

pub has_same : (us ws : List (Bor (List ℕ))) (w : List ℕ) (r : Bool) → us ≡ ws → Decides r (Has (texts us) (length us) w) → Decides r (Has (texts ws) (length (texts ws)) w)
has_same us ws w r e d = subst (λ n. Decides r (Has (texts ws) n w)) (sym (length-texts ws)) (subst (λ l. Decides r (Has (texts l) (length l) w)) e d)

-- the first i words are names, no two the same
pub record Good (ws : List (List ℕ)) (i : ℕ) : Type 0 where
  pub named : (k : ℕ) → k < i → Named (get_or ws k [])
  pub distinct : (j k : ℕ) → j < k → k < i → get_or ws j [] ≡ get_or ws k [] → ⊥

pub good_none : (ws : List (List ℕ)) → Good ws 0
good_none ws = record { named = λ k l. absurd (omega arith); distinct = λ j k m l e. omega arith }

pub good_more : (ws : List (List ℕ)) (i : ℕ) → i < length ws → Good ws i → Named (get_or ws i []) → (Has ws i (get_or ws i []) → ⊥) → Good ws (i + 1)
good_more ws i inside g n h = record {
  named = λ k l. ⊎_elim (λ m. g.named k m) (λ m. let e : i ≡ k = omega arith in subst (λ j. Named (get_or ws j [])) e n) (cases_lt k i);
  distinct = λ j k m l e.
      ⊎_elim (λ b. g.distinct j k m b e)
      (λ b. let same : k ≡ i = omega arith in h (j, omega arith, omega arith, e ∙ ap (λ x. get_or ws x []) same)) (cases_lt k i);
}

pub good_all : (ws : List (List ℕ)) (i : ℕ) → 0 < length ws → length ws ≤ 48 → length ws ≤ i → Good ws i → Names ws
good_all ws i some few l g = record { some = some; few = few; named = λ k m. g.named k (omega arith); distinct = λ j k a b e. g.distinct j k a (omega arith) e }

-- the names that were read, and the words that are left
pub record Taken (all rest names : List (List ℕ)) : Type 0 where
  pub whole : all ≡ names ++ rest
  pub few : length names ≤ 48
  pub good : Good all (length names)

pub taken_none : (all : List (List ℕ)) → Taken all all []
taken_none all = record { whole = refl; few = omega arith; good = good_none all }

module _ (all rest names : List (List ℕ)) (t : Taken all rest names) where
  long : length all ≡ length names + length rest
  long = ap length t.whole ∙ length-append names rest

  next_at : (w : List ℕ) (after : List (List ℕ)) → rest ≡ w ∷ after → get_or all (length names) [] ≡ w
  next_at w after e = ap (λ l. get_or l (length names) []) (t.whole ∙ ap (λ l. names ++ l) e) ∙ get_or_at names w after [] (length names) refl

  pub no_name : (after : List (List ℕ)) → (rest ≡ [] → ⊥) → NameRead rest after None → Names all → ⊥
  no_name after some none ns = go rest refl
    where
      go : (l : List (List ℕ)) → rest ≡ l → ⊥
      go [] e = some e
      go (w ∷ ws) e = none w ws e (subst Named (next_at w ws e) (ns.named (length names) (omega (arith, long, ap length e))))

  module _ (w : List ℕ) (after : List (List ℕ)) (next : rest ≡ w ∷ after) where
    pub too_many : 48 ≤ length names → Names all → ⊥
    too_many l ns = omega (arith, long, ap length next, ns.few)

    pub twice : Has names (length names) w → Names all → ⊥
    twice h ns =
        ns.distinct h.0 (length names) h.2 (omega (arith, long, ap length next))
        (ap (λ l. get_or l h.0 []) t.whole ∙ get_or_append_left names rest [] h.0 h.2 ∙ h.3 ∙ sym (next_at w after next))

    pub taken_more : length names < 48 → Named w → (Has names (length names) w → ⊥) → Taken all after (names ++ w ∷ [])
    taken_more l n h =
        let here = next_at w after next in
        let inside : length names < length all = omega (arith, long, ap length next) in
        let more : Good all (length names + 1) = good_more all (length names) inside t.good (subst Named (sym here) n) (λ x. h (x.0, x.1, x.1, sym (get_or_append_left names rest [] x.0 x.1) ∙ ap (λ l. get_or l x.0 []) (sym t.whole) ∙ x.3 ∙ here)) in
        record {
          whole = t.whole ∙ ap (λ l. names ++ l) next ∙ sym (append_assoc names (w ∷ []) after);
          few = omega (arith, length_push names w);
          good = subst (Good all) (sym (length_push names w)) more;
        }

  pub nothing : rest ≡ [] → length names ≡ 0 → Names all → ⊥
  nothing e n ns = omega (arith, long, ap length e, ns.some)

  pub taken_all : rest ≡ [] → (length names ≡ 0 → ⊥) → (names ≡ all) × Names all
  taken_all e n =
      let same : names ≡ all = sym (t.whole ∙ ap (λ l. names ++ l) e ∙ append-nil names) in
      let size = ap length same in
      (same, good_all all (length names) (omega arith) (omega (arith, t.few)) (omega arith) t.good)
