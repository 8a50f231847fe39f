-- When a pull is refused before it begins, what it begins with, and what it leaves in the whole lists.
use Rattle.std.proofs.Common.{◌≡◌, ℕ, ◌<◌, ◌≤◌, min, Bool, false, cond, not, ◌||◌, eqb, ltb, List, [], ◌++◌, map, length, get_or, take, replicate, ℤ, Ok, Err, Result, sym, refl, ap, ◌∙◌, subst, ap₂, arith}
use borrow.Rule.Slice.PartMut.{post_of}
use Rattle.std.proofs.lemmas.List.{length-map}
use Rattle.std.proofs.lemmas.Bool.{or_parts, ltb-false, not-false, eqb-true, eq-eqb, ne_eqb}
use Rattle.records.specs.declared.refusal.Refusal.{Refusal}
use Rattle.records.specs.declared.refusal.Refusal.TheVariants.{Unfit}
use Rattle.records.specs.declared.relation.Relation.{Relation}
use Rattle.records.specs.declared.role.Role.{Role}
use Rattle.whole.proofs.Tests.{any_false}
use Rattle.rules.specs.Values.{Coords, zeros, written}
use Rattle.rules.specs.Sheets.{Sheet, Workings, bonds, relation_at, bad_coefs, bad_relation, unfit_values, unfit}
use Rattle.rules.specs.Gripping.{counted}
use Rattle.rules.specs.Pulling.{Placing, proposed}
use Rattle.rules.specs.Calls.{Pulled, pull_by, pulling}
use Rattle.rules.proofs.Fit.{long_lists}
use Rattle.roles.specs.Places.{places}
use Rattle.sheets.proofs.Writing.{written_front}
use Rattle.residuals.specs.Rows.{chosen, Fine}
use Rattle.pulls.specs.Steps.{exactly}
use Rattle.residuals.proofs.Chosen.{many-chosen}
use Rattle.pulls.proofs.Counted.{counted-chosen, below_bound}
use Rattle.pulls.proofs.Numbered.{numbered, rows_are}

-- bound relations are in the lists, and break no limit
fine_rows : (size : ℕ) (s : Sheet) (vs : List Coords) (rs : List Relation) (qs : List Coords) (rows : List ℕ) → unfit size s vs rs qs ≡ false → s.bound ≤ 24
    → ((i : ℕ) → i < length rows → get_or rows i 0 < s.bound) → Fine size s.count rs qs rows
fine_rows size s vs rs qs rows e few below =
    let a = (or_parts (unfit_values size s.count s.d vs) _ e).1 in
    let b = or_parts (ltb (length rs) 24 || ltb (length qs) 24) _ a in
    let c = or_parts (ltb (length rs) 24) _ b.0 in
    let long = ltb-false (length rs) 24 c.0 in
    let known = ltb-false (length qs) 24 c.1 in
    record {
      inside = λ i l. let h = below i l in omega arith;
      known = λ i l. let h = below i l in omega arith;
      small = λ i l. (or_parts (bad_coefs s.count (relation_at rs (get_or rows i 0)).coefficients) _ (any_false s.bound (λ i. bad_relation size s.count (relation_at rs i) (get_or qs i [])) b.1 (get_or rows i 0) (below i l))).0;
      constant = λ i l. (or_parts (bad_coefs s.count (relation_at rs (get_or rows i 0)).coefficients) _ (any_false s.bound (λ i. bad_relation size s.count (relation_at rs i) (get_or qs i [])) b.1 (get_or rows i 0) (below i l))).1;
    }

-- the whole lists, where their first places are left as a pull over exactly those leaves them
exactly-by : {K : Type 0} (f : K → Coords) (size n : ℕ) (p : Result Placing Refusal) (r : Result ℤ Refusal) (xs ys us vs : List K) → length ys ≡ n → length vs ≡ 24
    → (r, map f ys, map f vs) ≡ exactly size n p → (r, map f (ys ++ post_of 0 n xs), map f (vs ++ post_of 0 24 us)) ≡ pull_by size n (map f xs) (map f us) p
exactly-by f size n (Ok p) r xs ys us vs ly lv e =
    let a = length-map ys f in
    let b = length-map vs f in
    let l = ap (λ (t : Pulled). length t.1) e in
    let k = ap (λ (t : Pulled). length t.2) e in
    λ i. ((e i).0, written_front f n p.nums ys xs (ap (λ (t : Pulled). t.1) e) (omega arith) i, written_front f 24 (zeros 24 size) vs us (ap (λ (t : Pulled). t.2) e) (omega arith) i)
exactly-by f size n (Err x) r xs ys us vs ly lv e =
    let a = length-map ys f in
    let b = length-map vs f in
    let l = ap (λ (t : Pulled). length t.1) e in
    let k = ap (λ (t : Pulled). length t.2) e in
    λ i. ((e i).0, written_front f n (zeros n size) ys xs (ap (λ (t : Pulled). t.1) e) (omega arith) i, written_front f 24 (zeros 24 size) vs us (ap (λ (t : Pulled). t.2) e) (omega arith) i)

module _ {K : Type 0} (f : K → Coords) (size : ℕ) (s : Sheet) (vs : List Coords) (rs : List Relation) (qs : List Coords) (w : Workings) (wishes proposal working : List K) where
  abbrev tests : ℕ → ℕ → ℕ → Bool
  tests a b k = ltb a s.count || ltb b s.count || ltb k 24 || unfit size s vs rs qs || not (eqb w.count s.count)

  abbrev called : Pulled
  called = pulling size s vs rs qs w (map f wishes) (map f proposal) (map f working)

  abbrev untouched : Pulled
  untouched = (Err Unfit, map f proposal, map f working)

  outcome : Bool → Bool → Pulled
  outcome x y = cond (x || y) (Err Unfit, map f proposal, map f working) (pull_by size s.count (map f proposal) (map f working)
      (proposed size s.count w.roles w.shares (counted s.count w.roles (bonds s rs qs)) w.table s.d vs (map f wishes)))

  same : called ≡ outcome (tests (length wishes) (length proposal) (length working)) (not (eqb w.m (length (counted s.count w.roles (bonds s rs qs)))))
  unfolding outcome
  same = λ i. outcome (tests (length-map wishes f i) (length-map proposal f i) (length-map working f i)) (not (eqb w.m (length (counted s.count w.roles (bonds s rs qs)))))

  module _ (fine : tests (length wishes) (length proposal) (length working) ≡ false) where
    pub same_count : w.count ≡ s.count
    same_count = eqb-true w.count s.count (not-false _ (or_parts (ltb (length wishes) s.count || ltb (length proposal) s.count || ltb (length working) 24 || unfit size s vs rs qs) _ fine).1)

    pub fit : unfit size s vs rs qs ≡ false
    fit = (or_parts (ltb (length wishes) s.count || ltb (length proposal) s.count || ltb (length working) 24) _ (or_parts (ltb (length wishes) s.count || ltb (length proposal) s.count || ltb (length working) 24 || unfit size s vs rs qs) _ fine).0).1

    lists : (ltb (length wishes) s.count || ltb (length proposal) s.count || ltb (length working) 24) ≡ false
    lists = (or_parts (ltb (length wishes) s.count || ltb (length proposal) s.count || ltb (length working) 24) _ (or_parts (ltb (length wishes) s.count || ltb (length proposal) s.count || ltb (length working) 24 || unfit size s vs rs qs) _ fine).0).0

    pub room : 24 ≤ length working
    room = ltb-false (length working) 24 (or_parts (ltb (length wishes) s.count || ltb (length proposal) s.count) _ lists).1

    pub proposal_long : s.count ≤ length proposal
    proposal_long = ltb-false (length proposal) s.count (or_parts (ltb (length wishes) s.count) _ (or_parts (ltb (length wishes) s.count || ltb (length proposal) s.count) _ lists).0).1

    pub wishes_long : s.count ≤ length wishes
    wishes_long = ltb-false (length wishes) s.count (or_parts (ltb (length wishes) s.count) _ (or_parts (ltb (length wishes) s.count || ltb (length proposal) s.count) _ lists).0).0

    -- these roles and bound relations, of which M count
    module _ (roles : List Role) (bound M : ℕ) (given : roles ≡ w.roles) (each : length roles ≡ w.count) (bound_is : bound ≡ s.bound) (few : s.bound ≤ 24)
        (counts : M ≡ length (places roles (take bound rs) (length (take bound rs)))) where
      these : places roles (take bound rs) (length (take bound rs)) ≡ places w.roles (take s.bound rs) s.bound
      these = let long = long_lists size s vs rs qs fit in numbered roles w.roles rs bound s.bound given bound_is (omega (arith, long.relations_long))

      many : M ≡ length (places w.roles (take s.bound rs) s.bound)
      many = counts ∙ ap length these

      bonds_are : counted s.count w.roles (bonds s rs qs) ≡ chosen s.count rs qs (places w.roles (take s.bound rs) s.bound)
      bonds_are = counted-chosen s.count w.roles s rs qs (sym (ap length given) ∙ each ∙ same_count) refl

      all : length (counted s.count w.roles (bonds s rs qs)) ≡ M
      all = ap length bonds_are ∙ many-chosen s.count rs qs (places w.roles (take s.bound rs) s.bound) ∙ sym many

      pub unfit_rows : (M ≡ w.m → ⊥) → untouched ≡ called
      unfolding outcome
      unfit_rows h = sym (same ∙ ap₂ (λ (x y : Bool). outcome x (not y)) fine (ne_eqb w.m _ (λ e. h (sym all ∙ sym e))))

      module _ (m : ℕ) (found : List ℕ) (e : M ≡ m) (is_m : m ≡ w.m) (most : m ≤ 12) (is : found ≡ written (min M 12) (places roles (take bound rs) (length (take bound rs))) (replicate 12 0)) where
        rows : take m found ≡ places w.roles (take s.bound rs) s.bound
        rows = rows_are (places w.roles (take s.bound rs) s.bound) found M m many (sym e) most (is ∙ ap (λ (x : List ℕ). written (min M 12) x (replicate 12 0)) these)

        pub rows_long : length (take m found) ≡ w.m
        rows_long = ap length rows ∙ sym many ∙ e ∙ is_m

        pub rows_fine : Fine size w.count rs qs (take m found)
        rows_fine = subst (λ (x : List ℕ). Fine size w.count rs qs x) (sym rows)
            (subst (λ (j : ℕ). Fine size j rs qs (places w.roles (take s.bound rs) s.bound)) (sym same_count) (fine_rows size s vs rs qs (places w.roles (take s.bound rs) s.bound) fit few (λ i l. below_bound w.roles rs qs s.bound i l)))

        abbrev answer : Result Placing Refusal
        answer = proposed size s.count w.roles w.shares (counted s.count w.roles (bonds s rs qs)) w.table s.d vs (map f wishes)

        found-same : (d : ℤ) → d ≡ s.d → exactly size w.count (proposed size w.count w.roles w.shares (chosen w.count rs qs (take m found)) w.table d vs (map f wishes)) ≡ exactly size s.count answer
        found-same d p = (λ i. exactly size (same_count i) (proposed size (same_count i) w.roles w.shares (chosen (same_count i) rs qs (rows i)) w.table (p i) vs (map f wishes)))
            ∙ ap (λ (x : List _). exactly size s.count (proposed size s.count w.roles w.shares x w.table s.d vs (map f wishes))) (sym bonds_are)

        begins : pull_by size s.count (map f proposal) (map f working) answer ≡ called
        unfolding outcome
        begins = sym (same ∙ ap₂ (λ (x y : Bool). outcome x (not y)) fine (eq-eqb w.m _ (sym is_m ∙ sym e ∙ sym all)))

        -- the whole lists, where their first places are as a pull of exactly those leaves them
        pub pulled : (d : ℤ) → d ≡ s.d → (n : ℕ) → n ≡ s.count → (r : Result ℤ Refusal) (ys us : List K) → length ys ≡ s.count → length us ≡ 24
            → (r, map f ys, map f us) ≡ exactly size w.count (proposed size w.count w.roles w.shares (chosen w.count rs qs (take m found)) w.table d vs (map f wishes))
            → (r, map f (ys ++ post_of 0 n proposal), map f (us ++ post_of 0 24 working)) ≡ called
        pulled d p n q r ys us ly lu h =
            ap (λ (k : ℕ). (r, map f (ys ++ post_of 0 k proposal), map f (us ++ post_of 0 24 working))) q
            ∙ exactly-by f size s.count answer r proposal ys working us ly lu (h ∙ found-same d p) ∙ begins
