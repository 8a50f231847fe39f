use Rattle.std.proofs.Common.{◌≡◌, ℕ, ◌+◌, ◌<◌, ◌≤◌, length, nat_abs, sym, subst, arith, w64, to_z, of_z}
use Rattle.std.proofs.lemmas.List.{set-get_or}
use Rattle.linear.specs.Elimination.{table_limit}
use Rattle.table.specs.declared.table.Table.{Table}
use Rattle.table.specs.Tables.{no_row, cell, grid, rows_grid}
use Rattle.table.proofs.Grids.{cell-size}
use Rattle.table.proofs.Turns.{Turning, turning_none}
use Rattle.table.proofs.Loops.{small, spare, ended, row_size, factor-size, left, turned_on, refused}
use Rattle.table.proofs.elimination.eliminate.Goals as goal
use Rattle.table.proofs.elimination.eliminate.Goals.{In-loop-i, After-change}

pub loop-k-preserved-then-spare : goal.loop-k-preserved-then-spare
loop-k-preserved-then-spare c = spare (length c.args.rows.now) c.loop-k.k (rows_grid c.args.rows.now) (record { rows = c.loop-k.rows }) c.loop-k.invariant c.loop-k-test.true c.if-spare.ensures

pub loop-i-init : goal.loop-i-init
loop-i-init c = turning_none (length c.args.rows.now) c.loop-k.k (record { rows = c.loop-k.rows })

-- at row i of step k: the rows as the step found them, and as they are now
module _ (c : In-loop-i) where
  abbrev m : ℕ
  m = length c.args.rows.now

  abbrev found : Table
  found = record { rows = c.loop-k.rows }

  abbrev now : Table
  now = record { rows = c.loop-i.rows }

  here : c.loop-i.i < m
  here = omega arith

  factors : (nat_abs (to_z w64 (of_z w64 (cell found c.loop-k.k c.loop-k.k))) ≤ table_limit) × (nat_abs (to_z w64 (of_z w64 (cell now c.loop-i.i c.loop-k.k))) ≤ table_limit)
  factors = factor-size m c.loop-k.k (rows_grid c.args.rows.now) found c.loop-k.invariant c.loop-k-test.true c.if-spare.ensures c.loop-i.i now c.loop-i.invariant here

  own : (j : ℕ) → j < m + m → nat_abs (cell now c.loop-i.i j) ≤ table_limit
  own = row_size m c.loop-k.k (rows_grid c.args.rows.now) found c.loop-k.invariant c.loop-k-test.true c.if-spare.ensures c.loop-i.i now c.loop-i.invariant here

  pivots : (j : ℕ) → j < m + m → nat_abs (cell found c.loop-k.k j) ≤ table_limit
  pivots j = cell-size m found (small m c.loop-k.k (rows_grid c.args.rows.now) found c.loop-k.invariant c.loop-k-test.true) c.loop-k.k j c.loop-k-test.true

pub loop-i-preserved-then-stays : goal.loop-i-preserved-then-stays
loop-i-preserved-then-stays c =
    let a = (goal.at.loop-i-preserved-then-stays c).In-loop-i in
    subst (λ rows. Turning (m a) c.loop-k.k (grid (m a) (found a)) (c.loop-i.i + 1) (record { rows = rows })) (sym (set-get_or c.loop-i.rows c.loop-i.i no_row))
    (left (m a) c.loop-k.k (rows_grid c.args.rows.now) (found a) c.loop-k.invariant c.loop-k-test.true c.if-spare.ensures c.loop-i.i (now a) c.loop-i.invariant (here a) c.if-stays.ensures)

pub invariant_of-change : goal.invariant_of-change
invariant_of-change c =
    let f = factors (goal.at.invariant_of-change c).In-loop-i in
    let p = f.0 in
    let q = f.1 in
    record { row = omega arith; pivot = omega arith }

pub change-requires : goal.change-requires
change-requires c =
    let a = (goal.at.change-requires c).In-loop-i in
    let few = c.requires.0 in
    record { size = omega arith; rows = (own a, pivots a) }

pub loop-i-preserved : goal.loop-i-preserved
loop-i-preserved c =
    let a = (goal.at.loop-i-preserved c).In-loop-i in
    turned_on (m a) c.loop-k.k (rows_grid c.args.rows.now) (found a) c.loop-k.invariant c.loop-k-test.true c.if-spare.ensures c.loop-i.i (now a) c.loop-i.invariant (here a)
    (omega arith) c.change.new.self c.if-stays.ensures c.change.ensures c.if-beyond.ensures

pub loop-k-preserved : goal.loop-k-preserved
loop-k-preserved c =
    let m = length c.args.rows.now in
    let found : Table = record { rows = c.loop-k.rows } in
    let now : Table = record { rows = c.loop-i.rows } in
    let e : c.loop-i.i ≡ m = omega arith in
    ended m c.loop-k.k (rows_grid c.args.rows.now) found c.loop-k.invariant c.loop-k-test.true c.if-spare.ensures now
    (subst (λ (i : ℕ). Turning m c.loop-k.k (grid m found) i now) e c.loop-i.invariant)

pub returns-then-beyond : goal.returns-then-beyond
returns-then-beyond c =
    let a = (goal.at.returns-then-beyond c).In-loop-i in
    refused (m a) c.loop-k.k (rows_grid c.args.rows.now) (found a) c.loop-k.invariant c.loop-k-test.true c.if-spare.ensures c.loop-i.i (now a) c.loop-i.invariant (here a)
    (omega arith) c.change.new.self c.if-stays.ensures c.change.ensures c.if-beyond.ensures
