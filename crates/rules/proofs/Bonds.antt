-- The bound relations, read off the lists, after each call.
use Rattle.std.proofs.Common.{◌≡◌, ℕ, zero, suc, ◌+◌, ◌-◌, ◌<◌, ◌≤◌, ◌≢◌, List, [], ◌∷◌, ◌++◌, length, get_or, take, drop, set, replicate, ℤ, pos, sym, refl, ap, ◌∙◌, ap₂, ⊎_elim, add-one, arith}
use Rattle.std.specs.List.{remove}
use Rattle.std.proofs.lemmas.List.Edits.{length-remove, get_or-remove_below, get_or-remove_above}
use Rattle.std.proofs.lemmas.List.{get_or_append_left, get_or-append_right, get_or-take, get_or-drop, get_or-set_same, get_or-set_other, length-append, length-take-le, length-drop, take_at, take_all}
use Rattle.std.proofs.lemmas.Bool.{cases_lt}
use Rattle.records.specs.declared.relation.Mark.TheVariants.{Idle}
use Rattle.records.specs.declared.relation.Relation.{Relation}
use Rattle.records.specs.declared.role.Role.{Role}
use Rattle.whole.specs.Lists.{tab}
use Rattle.whole.proofs.Lists.{tab-length, get_or-tab, tab_ext, tab_of}
use Rattle.linear.specs.Elimination.{Grid}
use Rattle.rules.specs.Values.{Coords, zeros, written}
use Rattle.rules.specs.Sheets.{Sheet, Bond, bond, no_bond, bonds, relation_at}
use Rattle.rules.specs.Gripping.{mark_of, with_mark, marked}
use Rattle.rules.specs.Calls.{recorded, closed}

-- ---- writing the first places
module _ {X : Type 0} where
  pub take-written : (n : ℕ) (new old : List X) → n ≤ length new → take n (written n new old) ≡ take n new
  take-written n new old l = take_at (take n new) (drop (0 + n) old) n (length-take-le n new l)

  pub take-written_all : (n : ℕ) (new old : List X) → length new ≡ n → take n (written n new old) ≡ new
  take-written_all n new old e = take-written n new old (omega arith) ∙ take_all n new (omega arith)

  pub get_or-written : (n : ℕ) (new old : List X) (d : X) → n ≤ length new → (i : ℕ) → i < n → get_or (written n new old) i d ≡ get_or new i d
  get_or-written n new old d l i b =
      let e = length-take-le n new l in
      get_or_append_left (take n new) (drop (0 + n) old) d i (omega arith) ∙ get_or-take n new i d b

  pub length-written : (n : ℕ) (new old : List X) → n ≤ length new → n ≤ length old → length (written n new old) ≡ length old
  length-written n new old l k =
      let e = length-take-le n new l in
      let f = length-drop (0 + n) old in
      length-append (take n new) (drop (0 + n) old) ∙ sum e f
    where
      sum : length (take n new) ≡ n → length (drop (0 + n) old) ≡ length old - (0 + n) → length (take n new) + length (drop (0 + n) old) ≡ length old
      sum e f = omega arith

  -- one more at the end
  pub tab_last : (n : ℕ) (f : ℕ → X) → tab (suc n) f ≡ tab n f ++ (f n ∷ [])
  tab_last zero f = refl
  tab_last (suc n) f = ap (λ (ys : List X). f 0 ∷ ys) (tab_last n (λ i. f (suc i)))

  -- ---- closing a gap
  module _ (n i : ℕ) (xs : List X) (d : X) (i<n : i < n) (room : n ≤ length xs) where
    abbrev front : List X
    front = take i xs

    abbrev later : List X
    later = take (n - (i + 1)) (drop (i + 1) xs)

    front_length : length front ≡ i
    front_length = length-take-le i xs (omega arith)

    later_length : length later ≡ n - (i + 1)
    later_length = let e = length-drop (i + 1) xs in length-take-le (n - (i + 1)) (drop (i + 1) xs) (omega arith)

    both_length : length (front ++ later) ≡ i + (n - (i + 1))
    both_length = length-append front later ∙ ap₂ (λ (a b : ℕ). a + b) front_length later_length

    pub closed_below : (j : ℕ) → j < i → get_or (closed n i xs) j d ≡ get_or xs j d
    closed_below j l =
        let a = both_length in
        let b = front_length in
        get_or_append_left (front ++ later) (drop (i + (n - (i + 1))) xs) d j (omega arith) ∙ get_or_append_left front later d j (omega arith) ∙ get_or-take i xs j d l

    pub closed-above : (j : ℕ) → i ≤ j → j + 1 < n → get_or (closed n i xs) j d ≡ get_or xs (j + 1) d
    closed-above j l k =
        let a = both_length in
        let e : i + 1 + (j - i) ≡ j + 1 = omega arith in
        get_or_append_left (front ++ later) (drop (i + (n - (i + 1))) xs) d j (omega arith) ∙ get_or-append_right front later i j d front_length l
        ∙ get_or-take (n - (i + 1)) (drop (i + 1) xs) (j - i) d (omega arith) ∙ get_or-drop (i + 1) xs (j - i) d ∙ ap (λ (x : ℕ). get_or xs x d) e

    -- the places rest as they are behind the gap
    pub closed-length : length (closed n i xs) ≡ length xs
    closed-length = let f = length-drop (i + (n - (i + 1))) xs in length-append (front ++ later) (drop (i + (n - (i + 1))) xs) ∙ sum both_length f
      where
        sum : length (front ++ later) ≡ i + (n - (i + 1)) → length (drop (i + (n - (i + 1))) xs) ≡ length xs - (i + (n - (i + 1))) → length (front ++ later) + length (drop (i + (n - (i + 1))) xs) ≡ length xs
        sum e f = omega arith

pub zeros-length : (n size : ℕ) → length (zeros n size) ≡ n
zeros-length n size = tab-length n (λ s. tab size (λ c. pos 0))

-- ---- the bound relations
abbrev pub none : Relation
none = record { coefficients = []; mark = Idle }

abbrev pub nth : ℕ → List Relation → List Coords → ℕ → Bond
nth n rs qs i = bond n (relation_at rs i).coefficients (get_or qs i [])

-- the coefficients of a recorded relation
pub recorded-coefs : (n : ℕ) (cs : List ℤ) → n ≤ length cs → take n (recorded n cs).coefficients ≡ take n cs
recorded-coefs n cs l = take-written n cs (replicate 48 (pos 0)) l

module _ (n b : ℕ) (d e : ℤ) (rs : List Relation) (qs : List Coords) where
  abbrev s : ℕ → ℤ → Sheet
  s k x = record { count = n; bound = k; d = x }

  -- after binding, the new one comes last
  pub bonds-bound : (cs : List ℤ) (q : Coords) → b < length rs → b < length qs → n ≤ length cs
      → bonds (s (b + 1) e) (set rs b (recorded n cs)) (set qs b q) ≡ bonds (s b d) rs qs ++ (bond n cs q ∷ [])
  bonds-bound cs q lr lq lc =
      ap (λ (k : ℕ). tab k new) (add-one b) ∙ tab_last b new
      ∙ ap₂ (λ (xs : List Bond) (x : Bond). xs ++ (x ∷ [])) (tab_ext b new (nth n rs qs) older) newest
    where
      new : ℕ → Bond
      new i = nth n (set rs b (recorded n cs)) (set qs b q) i

      older : (i : ℕ) → i < b → nth n (set rs b (recorded n cs)) (set qs b q) i ≡ nth n rs qs i
      older i l =
          let o : i ≢ b = omega arith in
          ap₂ (λ (r : Relation) (x : Coords). bond n r.coefficients x) (get_or-set_other rs b i (recorded n cs) none o) (get_or-set_other qs b i q [] o)

      newest : nth n (set rs b (recorded n cs)) (set qs b q) b ≡ bond n cs q
      newest =
          ap₂ (λ (r : Relation) (x : Coords). bond n r.coefficients x) (get_or-set_same rs b (recorded n cs) none lr) (get_or-set_same qs b q [] lq)
          ∙ ap (λ (xs : List ℤ). record { coefs = xs; constant = q }) (recorded-coefs n cs lc)

  -- after unbinding, one is removed
  pub bonds-unbound : (i : ℕ) → i < b → b ≤ length rs → b ≤ length qs
      → bonds (s (b - 1) e) (closed b i rs) (closed b i qs) ≡ remove (bonds (s b d) rs qs) i
  bonds-unbound i l lr lq =
      tab_ext (b - 1) (nth n (closed b i rs) (closed b i qs)) (λ j. get_or (remove old i) j no_bond) each
      ∙ ap (λ (k : ℕ). tab k (λ j. get_or (remove old i) j no_bond)) many ∙ tab_of (remove old i) no_bond
    where
      old : List Bond
      old = bonds (s b d) rs qs

      long : length old ≡ b
      long = tab-length b (nth n rs qs)

      inside : i < length old
      inside = let e = long in omega arith

      many : b - 1 ≡ length (remove old i)
      many = let e = length-remove old i inside in let f = long in omega arith

      each : (j : ℕ) → j < b - 1 → nth n (closed b i rs) (closed b i qs) j ≡ get_or (remove old i) j no_bond
      each j k = ⊎_elim
          (λ below.
          ap₂ (λ (r : Relation) (x : Coords). bond n r.coefficients x) (closed_below b i rs none l lr j below) (closed_below b i qs [] l lq j below)
          ∙ sym (get_or-remove_below old i no_bond j below inside ∙ get_or-tab b (nth n rs qs) no_bond j (omega arith)))
          (λ above.
          ap₂ (λ (r : Relation) (x : Coords). bond n r.coefficients x) (closed-above b i rs none l lr j above (omega arith)) (closed-above b i qs [] l lq j above (omega arith))
          ∙ sym (get_or-remove_above old i no_bond j above inside ∙ get_or-tab b (nth n rs qs) no_bond (j + 1) (omega arith)))
          (cases_lt j i)

-- marks change no relation
module _ (s : Sheet) (rs : List Relation) (qs : List Coords) (roles : List Role) (t : Grid) where
  abbrev marking : ℕ → Relation
  marking i = with_mark (relation_at rs i) (mark_of s.count roles (bonds s rs qs) t i)

  pub marked-at : (i : ℕ) → i < s.bound → relation_at (marked s.count roles (bonds s rs qs) t rs) i ≡ marking i
  marked-at i l =
      let e = tab-length s.bound (nth s.count rs qs) in
      let f = tab-length (length (bonds s rs qs)) marking in
      get_or-written (length (bonds s rs qs)) (tab (length (bonds s rs qs)) marking) rs none (omega arith) i (omega arith)
      ∙ get_or-tab (length (bonds s rs qs)) marking none i (omega arith)

  pub bonds-marked : bonds s (marked s.count roles (bonds s rs qs) t rs) qs ≡ bonds s rs qs
  bonds-marked = tab_ext s.bound (nth s.count (marked s.count roles (bonds s rs qs) t rs) qs) (nth s.count rs qs)
      (λ i l. ap (λ (r : Relation). bond s.count r.coefficients (get_or qs i [])) (marked-at i l))
