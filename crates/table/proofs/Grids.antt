-- A table's numbers and its grid.
use Rattle.std.proofs.Common.{◌≡◌, ℕ, ◌+◌, ◌<◌, ◌≤◌, false, [], get_or, nat_abs, ap, ◌∙◌, arith, w64, SFits}
use Rattle.whole.specs.Lists.{tab, at}
use Rattle.whole.proofs.Lists.{get_or-tab, at-tab}
use Rattle.whole.proofs.Sizes.{fits}
use Rattle.linear.specs.Elimination.{entry, beyond, table_limit}
use Rattle.linear.proofs.Limits.{entry-≤}
use Rattle.table.specs.declared.table.Table.{Table}
use Rattle.table.specs.Tables.{cell, grid}

module _ (m : ℕ) (t : Table) where
  pub row_grid : (i : ℕ) → i < m → get_or (grid m t) i [] ≡ tab (m + m) (cell t i)
  row_grid i h = get_or-tab m (λ i. tab (m + m) (cell t i)) [] i h

  pub entry-grid : (i j : ℕ) → i < m → j < m + m → entry (grid m t) i j ≡ cell t i j
  entry-grid i j h l = ap (λ r. at r j) (row_grid i h) ∙ at-tab (m + m) (cell t i) j l

  module _ (small : beyond m (grid m t) ≡ false) where
    pub cell-size : (i j : ℕ) → i < m → j < m + m → nat_abs (cell t i j) ≤ table_limit
    cell-size i j h l = let e = ap nat_abs (entry-grid i j h l) in let b = entry-≤ m (grid m t) small i j h l in omega arith

    pub cell-fits : (i j : ℕ) → i < m → j < m + m → SFits w64 (cell t i j)
    cell-fits i j h l = fits (cell t i j) (let b = cell-size i j h l in omega arith)
