-- What the loops over steps and rows find in the table, as its bits show it.
use Rattle.std.proofs.Common.{◌≡◌, ℕ, ◌+◌, ◌<◌, ◌≤◌, Bool, true, false, ◌||◌, eqb, length, get_or, set, ℤ, nat_abs, Ok, Err, sym, ap, ◌∙◌, subst, ap₂, arith, w64, SFits, to_z, of_z}
use Rattle.std.proofs.lemmas.Int.{to_z-of_z}
use Rattle.records.specs.declared.refusal.Refusal.TheVariants.{TableTooLarge}
use Rattle.whole.specs.Tests.{is_zero}
use Rattle.whole.proofs.Lists.{tab-length}
use Rattle.linear.specs.Elimination.{Grid, entry, new_row, step, beyond, table_limit, within_limit, eliminated}
use Rattle.linear.proofs.Limits.{accepted}
use Rattle.table.specs.declared.row.Row.{Row}
use Rattle.table.specs.declared.table.Table.{Table}
use Rattle.table.specs.Rows.{changed, row_beyond}
use Rattle.table.specs.Tables.{no_row, cell, grid}
use Rattle.table.proofs.Grids.{row_grid, entry-grid, cell-size, cell-fits}
use Rattle.table.proofs.Steps.{next_step, fits_limit, passes_limit, refused_stays, spare-step, step-beyond, all_turned}
use Rattle.table.proofs.Turns.{Turning, new_row-length, row_old, turning_left, turning_changed, row_too_large}

-- before step k the table is t
module _ (m k : ℕ) (s : Grid) (t : Table) (so : eliminated m k s ≡ Ok (grid m t)) (k<m : k < m) where
  pub small : beyond m (grid m t) ≡ false
  small = (accepted m k s (grid m t) so).1

  diagonal : entry (grid m t) k k ≡ cell t k k
  diagonal = entry-grid m t k k k<m (omega arith)

  pivot : to_z w64 (of_z w64 (cell t k k)) ≡ entry (grid m t) k k
  pivot = to_z-of_z w64 (cell t k k) (cell-fits m t small k k k<m (omega arith)) ∙ sym diagonal

  pub spare : true ≡ is_zero (to_z w64 (of_z w64 (cell t k k))) → eliminated m (k + 1) s ≡ Ok (grid m t)
  spare e = next_step m k s (grid m t) so ∙ ap (within_limit m) (spare-step m k (grid m t) (sym (e ∙ ap is_zero pivot))) ∙ fits_limit m (grid m t) small

  module _ (nonzero : false ≡ is_zero (to_z w64 (of_z w64 (cell t k k)))) where
    needed : is_zero (entry (grid m t) k k) ≡ false
    needed = sym (nonzero ∙ ap is_zero pivot)

    pub ended : (t' : Table) → Turning m k (grid m t) m t' → eliminated m (k + 1) s ≡ Ok (grid m t')
    ended t' T =
        next_step m k s (grid m t) so
        ∙ fits_limit m (step m k (grid m t)) (step-beyond m k (grid m t) needed ∙ T.fine)
        ∙ ap Ok (sym (all_turned m k (grid m t) needed t' full T))
      where
        full : (i : ℕ) → i < m → length (new_row m k (grid m t) i) ≡ m + m
        full i h = new_row-length m k (grid m t) i (ap length (row_grid m t i h) ∙ tab-length (m + m) (cell t i))

    -- row i of the table t' on the way through the step
    module _ (i : ℕ) (t' : Table) (T : Turning m k (grid m t) i t') (i<m : i < m) where
      row_cell : (j : ℕ) → j < m + m → cell t' i j ≡ cell t i j
      row_cell j l = row_old m k (grid m t) i t' T i<m j l ∙ entry-grid m t i j i<m l

      pub row_size : (j : ℕ) → j < m + m → nat_abs (cell t' i j) ≤ table_limit
      row_size j l = let e = ap nat_abs (row_cell j l) in let b = cell-size m t small i j i<m l in omega arith

      number : cell t' i k ≡ entry (grid m t) i k
      number = row_old m k (grid m t) i t' T i<m k (omega arith)

      number_fits : SFits w64 (cell t' i k)
      number_fits = subst (SFits w64) (sym (row_cell k (omega arith))) (cell-fits m t small i k i<m (omega arith))

      pub factor-size : (nat_abs (to_z w64 (of_z w64 (cell t k k))) ≤ table_limit) × (nat_abs (to_z w64 (of_z w64 (cell t' i k))) ≤ table_limit)
      factor-size =
          let p = ap nat_abs (to_z-of_z w64 (cell t k k) (cell-fits m t small k k k<m (omega arith))) in
          let q = ap nat_abs (to_z-of_z w64 (cell t' i k) number_fits) in
          let a = cell-size m t small k k k<m (omega arith) in
          let b = row_size k (omega arith) in
          (omega arith, omega arith)

      -- the row stays
      tested : (b : Bool) → b ≡ (eqb i k || is_zero (to_z w64 (of_z w64 (cell t' i k)))) → (eqb i k || is_zero (entry (grid m t) i k)) ≡ b
      tested b e = sym (e ∙ ap (λ (z : ℤ). eqb i k || is_zero z) (to_z-of_z w64 (cell t' i k) number_fits ∙ number))

      pub left : true ≡ (eqb i k || is_zero (to_z w64 (of_z w64 (cell t' i k)))) → Turning m k (grid m t) (i + 1) t'
      left e = turning_left m k (grid m t) i t' T i<m small (tested true e)

      -- the row is changed
      module _ (few : i < length t'.rows) (row : Row) (asked : false ≡ (eqb i k || is_zero (to_z w64 (of_z w64 (cell t' i k)))))
          (made : row.cells ≡ changed (m + m) (to_z w64 (of_z w64 (cell t k k))) (to_z w64 (of_z w64 (cell t' i k))) (get_or t'.rows i no_row).cells (get_or t.rows k no_row).cells) where
        made_so : row.cells ≡ changed (m + m) (entry (grid m t) k k) (entry (grid m t) i k) (get_or t'.rows i no_row).cells (get_or t.rows k no_row).cells
        made_so =
            made ∙ ap₂ (λ (p q : ℤ). changed (m + m) p q (get_or t'.rows i no_row).cells (get_or t.rows k no_row).cells)
            pivot (to_z-of_z w64 (cell t' i k) number_fits ∙ number)

        changes : (eqb i k || is_zero (entry (grid m t) i k)) ≡ false
        changes = tested false asked

        pub turned_on : false ≡ row_beyond (m + m) row.cells → Turning m k (grid m t) (i + 1) (record { rows = set t'.rows i row })
        turned_on e =
            turning_changed m k (grid m t) i t' T i<m few (get_or t.rows k no_row) row (λ b l. sym (entry-grid m t k b k<m l)) changes made_so (sym e)

        pub refused : true ≡ row_beyond (m + m) row.cells → Err TableTooLarge ≡ eliminated m m s
        refused e =
            sym (refused_stays m (k + 1) m s TableTooLarge (omega arith)
            (next_step m k s (grid m t) so
            ∙ passes_limit m (step m k (grid m t)) (step-beyond m k (grid m t) needed
            ∙ row_too_large m k (grid m t) i t' T i<m few (get_or t.rows k no_row) row (λ b l. sym (entry-grid m t k b k<m l)) changes made_so (sym e))))
