-- Whole steps of the elimination.
use Rattle.std.proofs.Common.{◌≡◌, ℕ, zero, suc, ◌+◌, ◌<◌, ◌≤◌, Bool, true, false, cond, [], length, get_or, pos, Ok, Err, sym, ap, ◌∙◌, add-one, arith}
use native.Mathlib.Decide.{ℕ_discrete}
use Rattle.std.proofs.lemmas.Bool.{lt-ltb}
use Rattle.records.specs.declared.refusal.Refusal.{Refusal}
use Rattle.records.specs.declared.refusal.Refusal.TheVariants.{TableTooLarge}
use Rattle.records.specs.Outcomes.{guard, onward}
use Rattle.whole.specs.Lists.{tab, at}
use Rattle.whole.specs.Tests.{any, is_zero}
use Rattle.whole.proofs.Lists.{get_or-tab, tab_ext, tab_of}
use Rattle.whole.proofs.Tests.{any_ext}
use Rattle.linear.specs.Elimination.{Grid, entry, new_row, step, beyond, within_limit, eliminated}
use Rattle.table.specs.declared.table.Table.{Table}
use Rattle.table.specs.Rows.{row_beyond}
use Rattle.table.specs.Tables.{cell, grid}
use Rattle.table.proofs.Turns.{Turning}

-- ---- the steps so far
pub next_step : (m k : ℕ) (s u : Grid) → eliminated m k s ≡ Ok u → eliminated m (k + 1) s ≡ within_limit m (step m k u)
next_step m k s u e = ap (λ (n : ℕ). eliminated m n s) (add-one k) ∙ ap (λ r. onward r (λ u. within_limit m (step m k u))) e

pub fits_limit : (m : ℕ) (u : Grid) → beyond m u ≡ false → within_limit m u ≡ Ok u
fits_limit m u e = ap (λ (b : Bool). guard b TableTooLarge (Ok u)) e

pub passes_limit : (m : ℕ) (u : Grid) → beyond m u ≡ true → within_limit m u ≡ Err TableTooLarge
passes_limit m u e = ap (λ (b : Bool). guard b TableTooLarge (Ok u)) e

-- a refusal stays
pub refused_stays : (m k n : ℕ) (s : Grid) (e : Refusal) → k ≤ n → eliminated m k s ≡ Err e → eliminated m n s ≡ Err e
refused_stays m k zero s e l h = let z : k ≡ 0 = omega arith in ap (λ (j : ℕ). eliminated m j s) (sym z) ∙ h
refused_stays m k (suc n) s e l h = by (ℕ_discrete k (suc n)) (λ b. refused_stays m k n s e b h)
  where
    by : Dec (k ≡ suc n) → (k ≤ n → eliminated m n s ≡ Err e) → eliminated m (suc n) s ≡ Err e
    by (yes q) ih = ap (λ (j : ℕ). eliminated m j s) (sym q) ∙ h
    by (no d) ih = ap (λ r. onward r (λ u. within_limit m (step m n u))) (ih (omega arith))

-- ---- one step
pub spare-step : (m k : ℕ) (u : Grid) → is_zero (entry u k k) ≡ true → step m k u ≡ u
spare-step m k u e = ap (λ (b : Bool). cond b u (tab m (new_row m k u))) e

module _ (m k : ℕ) (u : Grid) (needed : is_zero (entry u k k) ≡ false) where
  step_is : step m k u ≡ tab m (new_row m k u)
  step_is = ap (λ (b : Bool). cond b u (tab m (new_row m k u))) needed

  pub step-beyond : beyond m (step m k u) ≡ any m (λ a. row_beyond (m + m) (new_row m k u a))
  step-beyond = ap (beyond m) step_is ∙ any_ext m _ _ (λ i l. ap (row_beyond (m + m)) (get_or-tab m (new_row m k u) [] i l))

  pub all_turned : (t : Table) → ((i : ℕ) → i < m → length (new_row m k u i) ≡ m + m) → Turning m k u m t → grid m t ≡ step m k u
  all_turned t full T = tab_ext m _ _ row ∙ sym step_is
    where
      row : (i : ℕ) → i < m → tab (m + m) (cell t i) ≡ new_row m k u i
      row i h =
          tab_ext (m + m) _ _ (λ j l. T.cells i j h l ∙ ap (λ (b : Bool). at (cond b (new_row m k u i) (get_or u i [])) j) (lt-ltb i m h))
          ∙ ap (λ (n : ℕ). tab n (at (new_row m k u i))) (sym (full i h)) ∙ tab_of (new_row m k u i) (pos 0)
