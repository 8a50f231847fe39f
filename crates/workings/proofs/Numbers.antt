-- What is read from workings, as its bits show it.
use Rattle.std.proofs.Common.{◌≡◌, ℕ, ◌+◌, ◌≤◌, [], ℤ, pos, nat_abs, ◌≤ℤ◌, ap, ◌∙◌, arith, w64, to_z, of_z}
use Rattle.std.proofs.lemmas.List.{get_or_past}
use Rattle.std.proofs.lemmas.Int.{to_z-of_z}
use Rattle.whole.specs.Lists.{tab, at}
use Rattle.whole.proofs.Lists.{tab-length}
use Rattle.whole.proofs.Sizes.{fits, size_of}
use Rattle.linear.specs.Elimination.{entry, table_limit}
use Rattle.table.specs.declared.table.Table.{Table}
use Rattle.table.specs.Tables.{cell, grid}

-- a number of the table that is not below 0
module _ (z : ℤ) (small : nat_abs z ≤ table_limit) (least : pos 0 ≤ℤ z) where
  back : to_z w64 (of_z w64 z) ≡ z
  back = to_z-of_z w64 z (fits z (omega arith))

  pub reads : (pos (nat_abs (to_z w64 (of_z w64 z))) ≡ z) × (nat_abs (to_z w64 (of_z w64 z)) ≤ table_limit)
  reads = (ap (λ (x : ℤ). pos (nat_abs x)) back ∙ size_of z least, (let e = ap nat_abs back in omega arith))

-- there is no row past the last
pub no_entry : (m : ℕ) (t : Table) (i j : ℕ) → m ≤ i → entry (grid m t) i j ≡ pos 0
no_entry m t i j h = ap (λ r. at r j) (get_or_past (grid m t) i [] (let e = tab-length m (λ i. tab (m + m) (cell t i)) in omega arith))
