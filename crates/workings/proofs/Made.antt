-- From what was chosen and shared to the finished table.
use Rattle.std.proofs.Common.{◌≡◌, ℕ, ◌+◌, ◌-◌, ◌<◌, ◌≤◌, Bool, true, false, cond, ltb, ◌↔◌, List, [], map, length, get_or, take, ℤ, pos, ◌*ℤ◌, nat_abs, ◌≤ℤ◌, Ok, Result, sym, refl, ap, ◌∙◌, subst, ap₂, arith}
use Rattle.std.proofs.lemmas.List.{get_or-take, get_or-map, length-map}
use Rattle.std.proofs.lemmas.Bool.{or_from, or_parts, le-ltb, ltb-false, ltb-true}
use Rattle.records.specs.declared.refusal.Refusal.{Refusal}
use Rattle.records.specs.declared.refusal.Refusal.TheVariants.{Unfit, Roles, Crowded}
use Rattle.records.specs.declared.relation.Mark.TheVariants.{Idle}
use Rattle.records.specs.declared.relation.Relation.{Relation}
use Rattle.records.specs.declared.role.Role.{Role}
use Rattle.records.specs.declared.role.Role.TheVariants.{Held}
use Rattle.records.specs.Outcomes.{guard, onward}
use Rattle.whole.specs.Lists.{at, coord}
use Rattle.whole.specs.Tests.{any, above}
use Rattle.whole.proofs.Lists.{at-tab, tab-length, tab_ext}
use Rattle.whole.proofs.Sums.{sum_ext}
use Rattle.whole.proofs.Tests.{any_false, any_ext, none_any, within-above}
use Rattle.linear.specs.Elimination.{Grid, entry, unit, start, steps, eliminated, table_limit}
use Rattle.linear.specs.Meaning.{Meaning}
use Rattle.linear.specs.Theorems.{Combined}
use Rattle.linear.proofs.Limits.{accepted}
use Rattle.linear.proofs.Meaning.{finished}
use Rattle.linear.proofs.Outcomes.{passed}
use Rattle.linear.proofs.Pivots.{pivots}
use Rattle.linear.proofs.Spares.{spares}
use Rattle.linear.specs.Gram.{gram}
use Rattle.rules.specs.Calls.{grip_on}
use Rattle.rules.specs.Gripping.{role, is_loose, bad_weight, bad_roles, share, shares, counted, coef, table}
use Rattle.rules.specs.Sheets as rules
use Rattle.rules.specs.Sheets.{Bond, bond, no_bond, relation_at, bad_coefs}
use Rattle.table.specs.declared.table.Table.{Table}
use Rattle.table.specs.Limits.{outside}
use Rattle.table.specs.Tables.{cell, grid}
use Rattle.table.proofs.Grids.{entry-grid, cell-size}
use Rattle.workings.specs.Chosen.{bare, unready}
use Rattle.workings.specs.Facts.{Finished}
use Rattle.workings.proofs.Counting.{counted-each, same_length}
use Rattle.rules.proofs.Roles.{share-≥0, share-≤}
use Rattle.workings.proofs.Shares.{share_low}

-- the first table depends on v(s) and R(i, s) alone
pub start_ext : (n m : ℕ) (v v' : ℕ → ℤ) (R R' : ℕ → ℕ → ℤ) → ((s : ℕ) → s < n → v s ≡ v' s) → ((i : ℕ) → i < m → (s : ℕ) → s < n → R i s ≡ R' i s) → start n m v R ≡ start n m v' R'
start_ext n m v v' R R' e f = tab_ext m _ _ (λ i h. tab_ext (m + m) _ _ (λ j l. by i h j (ltb j m) refl))
  where
    by : (i : ℕ) → i < m → (j : ℕ) (b : Bool) → ltb j m ≡ b → cond b (gram n v R i j) (unit i (j - m)) ≡ cond b (gram n v' R' i j) (unit i (j - m))
    by i h j true q = sum_ext n (λ s l. ap₂ ◌*ℤ◌ (e s l) (ap₂ ◌*ℤ◌ (f i h s l) (f j (ltb-true j m q) s l)))
    by i h j false q = refl

-- what the workings of n roles and m relations hold
pub record Holding (n m : ℕ) (t : Table) (roles : List Role) (vs : List ℤ) : Type 0 where
  pub few : m ≤ 12
  pub within : (i j : ℕ) → i < m → j < m + m → nat_abs (cell t i j) ≤ table_limit
  pub upright : (i : ℕ) → i < m → pos 0 ≤ℤ cell t i i
  pub low : (s : ℕ) → s < n → is_loose (role roles s) ≡ true → pos 1 ≤ℤ at vs s
  pub high : (s : ℕ) → s < n → nat_abs (at vs s) ≤ 12

-- what is chosen is chosen of at most 12
pub chosen_of : (b : Bool) (xs ys : List (List ℤ)) → Ok xs ≡ guard b Crowded (Ok ys) → (b ≡ false) × (xs ≡ ys)
chosen_of b xs ys e = let p = passed b Crowded (Ok ys) xs (sym e) in let q = p.1 in (p.0, (cc))

module _ (roles : List Role) (rs : List Relation) where
  abbrev n : ℕ
  n = length roles

  -- the relations that count
  abbrev bs : List Bond
  bs = counted n roles (bare n rs)

  -- the tests that come first
  module _ (few : n ≤ 48) (fine : any (length rs) (λ i. bad_coefs n (relation_at rs i).coefficients) ≡ false) (good : bad_roles n roles ≡ false) where
    pub ready : unready rs roles ≡ false
    ready = or_from (ltb 48 n) _ (le-ltb 48 n few) fine

    pub weights : (s : ℕ) → s < n → bad_weight (role roles s) ≡ false
    weights = any_false n (λ s. bad_weight (role roles s)) (or_parts _ _ (or_parts _ _ good).0).1

    -- the table, from shares and rows that hold its numbers
    module _ (crowd : ltb 12 (length bs) ≡ false) (rows : List (List ℤ)) (rows_are : map (take n) rows ≡ map (λ b. b.coefs) bs) (all : List ℤ) (shares_are : take n all ≡ shares n roles) where
      abbrev m : ℕ
      m = length rows

      abbrev vs : List ℤ
      vs = take n all

      many : m ≡ length bs
      many = same_length n roles bs rows rows_are

      size : length vs ≡ n
      size = ap length shares_are ∙ tab-length n (λ s. share (role roles s))

      pub share_is : (s : ℕ) → s < n → at vs s ≡ share (role roles s)
      share_is s l = ap (λ xs. at xs s) shares_are ∙ at-tab n (λ s. share (role roles s)) s l

      stored_share : (s : ℕ) → s < n → at all s ≡ share (role roles s)
      stored_share s l = sym (get_or-take n all s (pos 0) l) ∙ share_is s l

      coef_is : (i : ℕ) → i < m → (s : ℕ) → s < n → coord rows i s ≡ coef bs i s
      coef_is i h s l =
          let e = many in
          sym (get_or-take n (get_or rows i []) s (pos 0) l)
          ∙ ap (λ xs. at xs s) (sym (get_or-map (take n) rows i [] [] h) ∙ ap (λ xs. get_or xs i []) rows_are ∙ get_or-map (λ (b : Bond). b.coefs) bs i no_bond [] (omega arith))

      pub few_rows : m ≤ 12
      few_rows = let c = ltb-false 12 (length bs) crowd in let e = many in omega arith

      coefs_fine : (i : ℕ) → i < length bs → bad_coefs n (get_or bs i no_bond).coefs ≡ false
      coefs_fine = counted-each (λ b. bad_coefs n b.coefs ≡ false) n roles (bare n rs) each
        where
          each : (i : ℕ) → i < length (bare n rs) → bad_coefs n (get_or (bare n rs) i no_bond).coefs ≡ false
          each i h =
              let l : i < length rs = let e = length-map rs (λ (r : Relation). bond n r.coefficients []) in omega arith in
              ap (λ (b : Bond). bad_coefs n b.coefs) (get_or-map (λ (r : Relation). bond n r.coefficients []) rs i (record { coefficients = []; mark = Idle }) no_bond l)
              ∙ any_ext n _ _ (λ s k. ap (above 1000) (get_or-take n (relation_at rs i).coefficients s (pos 0) k))
              ∙ any_false (length rs) (λ i. bad_coefs n (relation_at rs i).coefficients) fine i l

      inside : outside (length vs) m vs rows ≡ false
      inside =
          ap (λ (k : ℕ). outside k m vs rows) size
          ∙ or_from _ _
          (or_from _ _
          (or_from (ltb 48 n) (ltb 12 m) (le-ltb 48 n few) (le-ltb 12 m few_rows))
          (none_any n _ (λ s l. within-above 12 (at vs s) (subst (λ (x : ℤ). nat_abs x ≤ 12) (sym (share_is s l)) (share-≤ (role roles s) (weights s l))))))
          (none_any m _ (λ i h. let e = many in any_ext n _ _ (λ s l. ap (above 1000) (coef_is i h s l)) ∙ coefs_fine i (omega arith)))

      -- the outcome of the elimination
      abbrev made : Result Grid Refusal
      made = eliminated m m (start (length vs) m (at vs) (coord rows))

      pub table_is : made ≡ table n roles bs
      table_is =
          ap (λ (k : ℕ). eliminated m m (start k m (at vs) (coord rows))) size
          ∙ ap (eliminated m m) (start_ext n m (at vs) (λ s. share (role roles s)) (coord rows) (coef bs) share_is coef_is)
          ∙ ap (λ (k : ℕ). eliminated k k (start n k (λ s. share (role roles s)) (coef bs))) many

      -- the outcome of the last step is the outcome of all
      pub gripped : (r : Result Grid Refusal) → r ≡ guard (outside (length vs) m vs rows) Unfit made
          → guard (unready rs roles) Unfit (grip_on n roles (bare n rs))
          ≡ onward r (λ t. Ok (record { count = n; m = length bs; table = t; roles = roles; shares = shares n roles }))
      gripped r e =
          ap (λ (b : Bool). guard b Unfit (grip_on n roles (bare n rs))) ready
          ∙ ap (λ (b : Bool). guard b Roles (guard (ltb 12 (length bs)) Crowded (onward (table n roles bs) ending))) good
          ∙ ap (λ (b : Bool). guard b Crowded (onward (table n roles bs) ending)) crowd
          ∙ ap (λ t. onward t ending) (sym (e ∙ ap (λ (b : Bool). guard b Unfit made) inside ∙ table_is))
        where
          ending : Grid → Result rules.Workings Refusal
          ending t = Ok (record { count = n; m = length bs; table = t; roles = roles; shares = shares n roles })

      -- with the table and the roles that the workings hold
      module _ (t : Table) (e : Ok (grid m t) ≡ guard (outside (length vs) m vs rows) Unfit made) (kept : List Role) (kept-are : take n kept ≡ roles) where
        finished_so : made ≡ Ok (grid m t)
        finished_so = sym (e ∙ ap (λ (b : Bool). guard b Unfit made) inside)

        table_so : table n roles bs ≡ Ok (grid m t)
        table_so = sym table_is ∙ finished_so

        least : (s : ℕ) → s < n → pos 0 ≤ℤ share (role roles s)
        least s l = share-≥0 (role roles s) (weights s l)

        meaning : Meaning n (length bs) (λ s. share (role roles s)) (coef bs) (grid m t)
        meaning = finished n (length bs) (λ s. share (role roles s)) (coef bs) (grid m t) least table_so

        role_is : (s : ℕ) → s < n → role kept s ≡ role roles s
        role_is s l = sym (get_or-take n kept s Held l) ∙ ap (λ rs. role rs s) kept-are

        pub holds : Holding n m t kept all
        holds = record {
          few = few_rows;
          within = cell-size m t (accepted m m (start (length vs) m (at vs) (coord rows)) (grid m t) finished_so).1;
          upright = λ i h. subst (λ (x : ℤ). pos 0 ≤ℤ x) (entry-grid m t i i h (omega arith)) (meaning.diagonal i (let e = many in omega arith));
          low = λ s l q. subst (λ (x : ℤ). pos 1 ≤ℤ x) (sym (stored_share s l)) (share_low (role roles s) (weights s l) (ap is_loose (sym (role_is s l)) ∙ q));
          high = λ s l. subst (λ (x : ℤ). nat_abs x ≤ 12) (sym (stored_share s l)) (share-≤ (role roles s) (weights s l));
        }

        pub shown_is : ◌≡◌ {A = Result rules.Workings Refusal} (Ok (record { count = n; m = m; table = grid m t; roles = take n kept; shares = vs }))
            (guard (unready rs roles) Unfit (grip_on n roles (bare n rs)))
        shown_is = (λ i. Ok (record { count = n; m = many i; table = grid m t; roles = kept-are i; shares = shares_are i })) ∙ sym (gripped (Ok (grid m t)) e)

        -- the first table, and what all its steps make of it
        abbrev first : Grid
        first = start n (length bs) (λ s. share (role roles s)) (coef bs)

        steps_so : grid m t ≡ steps (length bs) (length bs) first
        steps_so = (accepted (length bs) (length bs) first (grid m t) table_so).0

        pub facts : Finished n roles bs (grid m t)
        facts = record {
          pivots = λ k h. (pivots n (length bs) (λ s. share (role roles s)) (coef bs) least k h).0;
          spare_rows = meaning.spare;
          spares = λ i h. subst (λ u. (entry u i i ≡ pos 0) ↔ Combined n (λ s. share (role roles s)) (coef bs) i) (sym steps_so) (spares n (length bs) (λ s. share (role roles s)) (coef bs) least i h);
          meaning = meaning;
        }
