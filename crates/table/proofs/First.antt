-- The first table.
use Rattle.std.proofs.Common.{◌≡◌, ℕ, ◌+◌, ◌-◌, ◌<◌, ◌≤◌, Bool, true, false, cond, eqb, ltb, List, [], ◌++◌, length, drop, set, replicate, ℤ, pos, ◌*ℤ◌, nat_abs, sym, ap, ◌∙◌, ⊎_elim, arith}
use native.Mathlib.Decide.{ℕ_discrete}
use Rattle.std.proofs.lemmas.List.{get_or-set_same, get_or-set_other, get_or_append_left, get_or-append_right, get_or-drop, get_or-replicate, length-append, length-drop}
use Rattle.std.proofs.lemmas.Bool.{lt-ltb, le-ltb, eq-eqb, ne_eqb, cases_lt}
use Rattle.whole.specs.Lists.{tab, at}
use Rattle.whole.specs.Tests.{above}
use Rattle.whole.proofs.Lists.{tab-length, at-tab, get_or-tab, tab_ext}
use Rattle.whole.proofs.Sizes.{product-≤, sum-≤}
use Rattle.whole.proofs.Tests.{none_any, within-above}
use Rattle.linear.specs.Elimination.{unit, start, beyond, table_limit}
use Rattle.linear.specs.Gram.{gram}
use Rattle.table.specs.declared.row.Row.{Row}
use Rattle.table.specs.declared.table.Table.{Table}
use Rattle.table.specs.Tables.{no_row, cell, grid}

-- row i is written in its left half, and has its 1 in place m + i
module _ (m i : ℕ) (f : ℕ → ℤ) (few : m ≤ 12) (h : i < m) where
  before : (b : ℕ) → b < m + m → (b ≡ m + i → ⊥) → at (tab m f ++ drop m (replicate 24 (pos 0))) b ≡ cond (ltb b m) (f b) (unit i (b - m))
  before b l d = ⊎_elim low high (cases_lt b m)
    where
      low : b < m → at (tab m f ++ drop m (replicate 24 (pos 0))) b ≡ cond (ltb b m) (f b) (unit i (b - m))
      low q =
          get_or_append_left (tab m f) (drop m (replicate 24 (pos 0))) (pos 0) b (let e = tab-length m f in omega arith)
          ∙ at-tab m f b q ∙ ap (λ (c : Bool). cond c (f b) (unit i (b - m))) (sym (lt-ltb b m q))

      high : m ≤ b → at (tab m f ++ drop m (replicate 24 (pos 0))) b ≡ cond (ltb b m) (f b) (unit i (b - m))
      high q =
          get_or-append_right (tab m f) (drop m (replicate 24 (pos 0))) m b (pos 0) (tab-length m f) q
          ∙ get_or-drop m (replicate 24 (pos 0)) (b - m) (pos 0)
          ∙ get_or-replicate 24 (m + (b - m)) (pos 0) (pos 0) (omega arith)
          ∙ ap (λ (c : Bool). cond c (pos 1) (pos 0)) (sym (ne_eqb i (b - m) (λ e. d (omega arith))))
          ∙ ap (λ (c : Bool). cond c (f b) (unit i (b - m))) (sym (le-ltb b m q))

  wide : length (tab m f ++ drop m (replicate 24 (pos 0))) ≡ m + (24 - m)
  wide =
      length-append (tab m f) (drop m (replicate 24 (pos 0)))
      ∙ ap (λ (n : ℕ). n + length (drop m (replicate 24 (pos 0)))) (tab-length m f)
      ∙ ap (λ (n : ℕ). m + n) (length-drop m (replicate 24 (pos 0)))

  pub first_cell : (cells : List ℤ) → cells ≡ set (tab m f ++ drop m (replicate 24 (pos 0))) (m + i) (pos 1) → (b : ℕ) → b < m + m → at cells b ≡ cond (ltb b m) (f b) (unit i (b - m))
  first_cell cells e b l = ap (λ xs. at xs b) e ∙ by (ℕ_discrete b (m + i))
    where
      by : Dec (b ≡ m + i) → at (set (tab m f ++ drop m (replicate 24 (pos 0))) (m + i) (pos 1)) b ≡ cond (ltb b m) (f b) (unit i (b - m))
      by (yes q) =
          ap (λ (n : ℕ). at (set (tab m f ++ drop m (replicate 24 (pos 0))) (m + i) (pos 1)) n) q
          ∙ get_or-set_same (tab m f ++ drop m (replicate 24 (pos 0))) (m + i) (pos 1) (pos 0) (let z = wide in omega arith)
          ∙ ap (λ (c : Bool). cond c (pos 1) (pos 0)) (sym (eq-eqb i (b - m) (omega arith)))
          ∙ ap (λ (c : Bool). cond c (f b) (unit i (b - m))) (sym (le-ltb b m (omega arith)))
      by (no d) = get_or-set_other (tab m f ++ drop m (replicate 24 (pos 0))) (m + i) b (pos 1) (pos 0) d ∙ before b l d

-- the table, row after row
module _ (n m : ℕ) (v : ℕ → ℤ) (R : ℕ → ℕ → ℤ) where
  abbrev pub first-at : ℕ → ℕ → ℤ
  first-at a b = cond (ltb b m) (gram n v R a b) (unit a (b - m))

  pub first_more : (t : Table) (i : ℕ) (row : Row) → i < length t.rows → ((a b : ℕ) → a < i → b < m + m → cell t a b ≡ first-at a b)
      → ((b : ℕ) → b < m + m → at row.cells b ≡ first-at i b)
      → (a b : ℕ) → a < i + 1 → b < m + m → cell (record { rows = set t.rows i row }) a b ≡ first-at a b
  first_more t i row h old new a b l k = by (ℕ_discrete a i)
    where
      by : Dec (a ≡ i) → cell (record { rows = set t.rows i row }) a b ≡ first-at a b
      by (yes q) = ap (λ (c : ℕ). cell (record { rows = set t.rows i row }) c b) q ∙ ap (λ (r : Row). at r.cells b) (get_or-set_same t.rows i row no_row h) ∙ new b k ∙ ap (λ (c : ℕ). first-at c b) (sym q)
      by (no d) = ap (λ (r : Row). at r.cells b) (get_or-set_other t.rows i a row no_row d) ∙ old a b (omega arith) k

  pub first_all : (t : Table) → ((a b : ℕ) → a < m → b < m + m → cell t a b ≡ first-at a b) → grid m t ≡ start n m v R
  first_all t h = tab_ext m _ _ (λ i l. tab_ext (m + m) _ _ (λ j k. h i j l k))

  -- no number of it is beyond the limit
  module _ (few : n ≤ 48) (shares : (s : ℕ) → s < n → nat_abs (v s) ≤ 12) (rows : (a : ℕ) → a < m → (s : ℕ) → s < n → nat_abs (R a s) ≤ 1000) where
    gram-size : (a b : ℕ) → a < m → b < m → nat_abs (gram n v R a b) ≤ 576000000
    gram-size a b h k =
        let e = sum-≤ n (λ (s : ℕ). v s *ℤ (R a s *ℤ R b s)) 12000000 (λ s l. product-≤ (v s) (R a s *ℤ R b s) 12 1000000 (shares s l) (product-≤ (R a s) (R b s) 1000 1000 (rows a h s l) (rows b k s l))) in
        omega arith

    unit_size : (c : Bool) → nat_abs (cond c (pos 1) (pos 0)) ≤ table_limit
    unit_size true = omega arith
    unit_size false = omega arith

    first-size : (a b : ℕ) → a < m → nat_abs (first-at a b) ≤ table_limit
    first-size a b h = ⊎_elim
        (λ q. let e = ap (λ (c : Bool). nat_abs (cond c (gram n v R a b) (unit a (b - m)))) (lt-ltb b m q) in let g = gram-size a b h q in omega arith)
        (λ q. let e = ap (λ (c : Bool). nat_abs (cond c (gram n v R a b) (unit a (b - m)))) (le-ltb b m q) in let g = unit_size (eqb a (b - m)) in omega arith)
        (cases_lt b m)

    pub first_small : beyond m (start n m v R) ≡ false
    first_small = none_any m _ (λ i h. none_any (m + m) _ (λ j l.
        ap (above table_limit) (ap (λ r. at r j) (get_or-tab m (λ a. tab (m + m) (first-at a)) [] i h) ∙ at-tab (m + m) (first-at i) j l) ∙ within-above table_limit (first-at i j) (first-size i j h)))
