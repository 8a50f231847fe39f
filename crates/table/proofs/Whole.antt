-- The first rows, and the table that the elimination makes of them.
use Rattle.std.proofs.Common.{◌≡◌, ℕ, ◌+◌, Bool, false, List, ◌++◌, length, take, ℤ, Result, sym, ap, ◌∙◌, ap₂, arith}
use Rattle.std.proofs.Math.Seq.{take-append_seam}
use Rattle.std.proofs.lemmas.List.{get_or_append_left}
use Rattle.records.specs.declared.refusal.Refusal.{Refusal}
use Rattle.records.specs.declared.refusal.Refusal.TheVariants.{Unfit}
use Rattle.records.specs.Outcomes.{guard}
use Rattle.whole.specs.Lists.{at, coord}
use Rattle.whole.proofs.Lists.{tab_ext}
use Rattle.linear.specs.Elimination.{Grid, start, beyond, eliminated}
use Rattle.table.specs.declared.row.Row.{Row}
use Rattle.table.specs.Limits.{outside}
use Rattle.table.specs.Tables.{no_row, grid, rows_grid}
use Rattle.table.proofs.First.{first_small}
use Rattle.table.proofs.Inside.{inside}

-- rows with others after them
pub front_rows : (m : ℕ) (rows rest : List Row) → length rows ≡ m → take m (rows ++ rest) ≡ rows
front_rows m rows rest e = ap (λ (k : ℕ). take k (rows ++ rest)) (sym e) ∙ take-append_seam rows rest

pub front_grid : (m : ℕ) (rows rest : List Row) → length rows ≡ m → grid m (record { rows = rows ++ rest }) ≡ rows_grid rows
front_grid m rows rest e =
    tab_ext m _ _ (λ i h. tab_ext (m + m) _ _ (λ j l. ap (λ (r : Row). at r.cells j) (get_or_append_left rows rest no_row i (omega arith))))
    ∙ ap (λ (k : ℕ). grid k (record { rows = rows })) (sym e)

module _ (n m : ℕ) (vs : List ℤ) (rs : List (List ℤ)) (rows : List Row) (many : length rows ≡ m) (fine : outside n m vs rs ≡ false)
    (first : rows_grid rows ≡ start n m (at vs) (coord rs)) where
  pub first_within : beyond (length rows) (rows_grid rows) ≡ false
  first_within = let i = inside n m vs rs fine in ap₂ beyond many first ∙ first_small n m (at vs) (coord rs) i.parameters i.shares i.rows

  pub finished_is : (made : Result Grid Refusal) → made ≡ eliminated (length rows) (length rows) (rows_grid rows)
      → made ≡ guard (outside n m vs rs) Unfit (eliminated m m (start n m (at vs) (coord rs)))
  finished_is made e =
      e ∙ (λ j. eliminated (many j) (many j) (first j))
      ∙ sym (ap (λ (b : Bool). guard b Unfit (eliminated m m (start n m (at vs) (coord rs)))) fine)
