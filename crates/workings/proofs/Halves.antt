-- A row's right half, read as a part of its numbers.
use Rattle.std.proofs.Common.{◌≡◌, ℕ, ◌+◌, ◌-◌, ◌<◌, ◌≤◌, Bool, cond, ltb, [], length, get_or, take, drop, nat_abs, sym, ap, ◌∙◌, arith}
use Rattle.std.proofs.lemmas.Bool.{lt-ltb}
use Rattle.whole.specs.Lists.{tab, at}
use Rattle.linear.specs.Elimination.{right_half, table_limit}
use Rattle.table.specs.declared.table.Table.{Table}
use Rattle.table.specs.Tables.{no_row, cell, grid}
use Rattle.table.proofs.Grids.{entry-grid}
use Rattle.table.proofs.Sizes.{tab-within}
use Rattle.workings.proofs.Lists.{slice_tab}

module _ (m : ℕ) (t : Table) (i : ℕ) (few : m ≤ 12) (h : i < m) (long : length (get_or t.rows i no_row).cells ≡ 24)
    (within : (a b : ℕ) → a < m → b < m + m → nat_abs (cell t a b) ≤ table_limit) where
  half : take ((m + m) - m) (drop m (get_or t.rows i no_row).cells) ≡ tab m (right_half m (grid m t) i)
  half =
      let width : (m + m) - m ≡ m = omega arith in
      ap (λ (n : ℕ). take n (drop m (get_or t.rows i no_row).cells)) width
      ∙ slice_tab m m (get_or t.rows i no_row).cells (right_half m (grid m t) i) (omega arith) (λ j l. sym (entry-grid m t i (m + j) h (omega arith)))

  pub half_is : take ((m + m) - m) (drop m (get_or t.rows i no_row).cells) ≡ cond (ltb i m) (tab m (right_half m (grid m t) i)) []
  half_is = half ∙ ap (λ (b : Bool). cond b (tab m (right_half m (grid m t) i)) []) (sym (lt-ltb i m h))

  pub half_size : (j : ℕ) → nat_abs (at (take ((m + m) - m) (drop m (get_or t.rows i no_row).cells)) j) ≤ table_limit
  half_size j =
      let e = ap (λ xs. nat_abs (at xs j)) half in
      let b = tab-within table_limit m (right_half m (grid m t) i) (λ k l. let q = ap nat_abs (entry-grid m t i (m + k) h (omega arith)) in let w = within i (m + k) h (omega arith) in omega arith) j in
      omega arith
