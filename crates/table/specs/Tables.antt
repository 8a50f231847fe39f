-- A table's numbers.
use Rattle.std.specs.Prelude.{ℕ, ◌+◌, List, [], length, ℤ, slice_index_or}
use Rattle.whole.specs.Lists.{tab, at}
use Rattle.linear.specs.Elimination.{Grid}
use Rattle.table.specs.declared.row.Row.{Row}
use Rattle.table.specs.declared.table.Table.{Table}

abbrev pub no_row : Row
no_row = record { cells = [] }

-- The number in row i, column j; 0 where there is none.
abbrev pub cell : Table → ℕ → ℕ → ℤ
cell t i j = at (slice_index_or t.rows i no_row).cells j

-- The first m rows in their first 2 m columns.
abbrev pub grid : ℕ → Table → Grid
grid m t = tab m (λ i. tab (m + m) (cell t i))

-- The rows of a list, each in twice as many columns as there are rows.
abbrev pub rows_grid : List Row → Grid
rows_grid rows = grid (length rows) (record { rows = rows })
