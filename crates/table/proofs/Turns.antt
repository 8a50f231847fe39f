-- Within a step: the rows before row i are changed already, the others still as they were.
use Rattle.std.proofs.Common.{◌≡◌, ℕ, ◌+◌, ◌<◌, Bool, true, false, cond, ◌||◌, eqb, ltb, List, [], length, get_or, drop, set, ℤ, pos, ◌-ℤ◌, ◌*ℤ◌, sym, refl, ap, ◌∙◌, ap₂, ⊎_elim, arith}
use native.Mathlib.Decide.{ℕ_discrete}
use lib.Signed.{quot_z}
use Rattle.std.proofs.lemmas.List.{get_or-set_same, get_or-set_other, get_or_append_left, length-map}
use Rattle.std.proofs.lemmas.Bool.{lt-ltb, le-ltb, cases_lt}
use Rattle.whole.specs.Gcd.{gcd_all}
use Rattle.whole.specs.Lists.{tab, at}
use Rattle.whole.specs.Tests.{any, above, is_zero}
use Rattle.whole.proofs.Lists.{tab-length, tab_ext}
use Rattle.whole.proofs.Tests.{any_false, any_ext, some-any}
use Rattle.linear.specs.Elimination.{Grid, entry, reduced, new_row, beyond, table_limit}
use Rattle.table.specs.declared.row.Row.{Row}
use Rattle.table.specs.declared.table.Table.{Table}
use Rattle.table.specs.Rows.{mixed, changed, row_beyond}
use Rattle.table.specs.Tables.{no_row, cell, grid}
use Rattle.table.proofs.Grids.{entry-grid}
use Rattle.table.proofs.Places.{any_more}

reduced-length : (xs : List ℤ) → length (reduced xs) ≡ length xs
reduced-length xs = length-map xs (λ x. quot_z x (pos (gcd_all xs)))

pub new_row-length : (m k : ℕ) (u : Grid) (i : ℕ) → length (get_or u i []) ≡ m + m → length (new_row m k u i) ≡ m + m
new_row-length m k u i h = by (eqb i k || is_zero (entry u i k))
  where
    by : (b : Bool) → length (cond b (get_or u i []) (reduced (tab (m + m) (λ j. entry u k k *ℤ entry u i j -ℤ entry u i k *ℤ entry u k j)))) ≡ m + m
    by true = h
    by false = reduced-length _ ∙ tab-length (m + m) _

-- row j of table u in step k, when the rows before row i are done
abbrev pub turned : ℕ → ℕ → Grid → ℕ → ℕ → List ℤ
turned m k u i j = cond (ltb j i) (new_row m k u j) (get_or u j [])

pub record Turning (m k : ℕ) (u : Grid) (i : ℕ) (t : Table) : Type 0 where
  pub cells : (a b : ℕ) → a < m → b < m + m → cell t a b ≡ at (turned m k u i a) b
  pub fine : any i (λ a. row_beyond (m + m) (new_row m k u a)) ≡ false

pub turning_none : (m k : ℕ) (t : Table) → Turning m k (grid m t) 0 t
turning_none m k t = record {
  cells = λ a b h l. sym (entry-grid m t a b h l) ∙ ap (λ (c : Bool). at (cond c (new_row m k (grid m t) a) (get_or (grid m t) a [])) b) (sym (le-ltb a 0 (omega arith)));
  fine = refl;
}

module _ (m k : ℕ) (u : Grid) (i : ℕ) (t : Table) (T : Turning m k u i t) where
  -- a row that is still to come
  pub row_old : i < m → (b : ℕ) → b < m + m → cell t i b ≡ entry u i b
  row_old h b l = T.cells i b h l ∙ ap (λ (c : Bool). at (cond c (new_row m k u i) (get_or u i [])) b) (le-ltb i i (omega arith))

  -- the next row, and the others
  module _ (t' : Table)
      (next : (b : ℕ) → b < m + m → cell t' i b ≡ at (new_row m k u i) b)
      (others : (a b : ℕ) → (a ≡ i → ⊥) → cell t' a b ≡ cell t a b)
      (small : row_beyond (m + m) (new_row m k u i) ≡ false) where
    turned_next : (a b : ℕ) → a < m → b < m + m → Dec (a ≡ i) → cell t' a b ≡ at (turned m k u (i + 1) a) b
    turned_next a b h l (yes e) =
        ap (λ (n : ℕ). cell t' n b) e ∙ next b l ∙ ap (λ (n : ℕ). at (new_row m k u n) b) (sym e)
        ∙ ap (λ (c : Bool). at (cond c (new_row m k u a) (get_or u a [])) b) (sym (lt-ltb a (i + 1) (omega arith)))
    turned_next a b h l (no d) =
        others a b d ∙ T.cells a b h l ∙ ap (λ (c : Bool). at (cond c (new_row m k u a) (get_or u a [])) b)
        (⊎_elim (λ q. lt-ltb a i q ∙ sym (lt-ltb a (i + 1) (omega arith))) (λ q. le-ltb a i q ∙ sym (le-ltb a (i + 1) (omega arith))) (cases_lt a i))

    pub turning_more : Turning m k u (i + 1) t'
    turning_more = record {
      cells = λ a b h l. turned_next a b h l (ℕ_discrete a i);
      fine = any_more i (λ a. row_beyond (m + m) (new_row m k u a)) T.fine small;
    }

  -- a row that the step leaves
  pub turning_left : i < m → beyond m u ≡ false → (eqb i k || is_zero (entry u i k)) ≡ true → Turning m k u (i + 1) t
  turning_left h small e =
      turning_more t (λ b l. row_old h b l ∙ ap (λ r. at r b) (sym same)) (λ a b d. refl)
      (ap (λ r. row_beyond (m + m) r) same ∙ any_false m (λ a. any (m + m) (λ b. above table_limit (entry u a b))) small i h)
    where
      same : new_row m k u i ≡ get_or u i []
      same = ap (λ (c : Bool). cond c (get_or u i []) (reduced (tab (m + m) (λ j. entry u k k *ℤ entry u i j -ℤ entry u i k *ℤ entry u k j)))) e

  -- a row that the step changes
  module _ (h : i < m) (h12 : i < length t.rows) (pivot row : Row)
      (pivot_is : (b : ℕ) → b < m + m → at pivot.cells b ≡ entry u k b)
      (asked : (eqb i k || is_zero (entry u i k)) ≡ false)
      (made : row.cells ≡ changed (m + m) (entry u k k) (entry u i k) (get_or t.rows i no_row).cells pivot.cells) where
    mixed_is : mixed (m + m) (entry u k k) (entry u i k) (get_or t.rows i no_row).cells pivot.cells ≡ tab (m + m) (λ j. entry u k k *ℤ entry u i j -ℤ entry u i k *ℤ entry u k j)
    mixed_is = tab_ext (m + m) _ _ (λ j l. ap₂ (λ (x y : ℤ). entry u k k *ℤ x -ℤ entry u i k *ℤ y) (row_old h j l) (pivot_is j l))

    new_is : new_row m k u i ≡ reduced (mixed (m + m) (entry u k k) (entry u i k) (get_or t.rows i no_row).cells pivot.cells)
    new_is = ap (λ (c : Bool). cond c (get_or u i []) (reduced (tab (m + m) (λ j. entry u k k *ℤ entry u i j -ℤ entry u i k *ℤ entry u k j)))) asked ∙ ap reduced (sym mixed_is)

    pub row_new : (b : ℕ) → b < m + m → at row.cells b ≡ at (new_row m k u i) b
    row_new b l =
        ap (λ r. at r b) made
        ∙ get_or_append_left (reduced mix) (drop (m + m) (get_or t.rows i no_row).cells) (pos 0) b (far b l)
        ∙ ap (λ r. at r b) (sym new_is)
      where
        mix : List ℤ
        mix = mixed (m + m) (entry u k k) (entry u i k) (get_or t.rows i no_row).cells pivot.cells

        far : (b : ℕ) → b < m + m → b < length (reduced mix)
        far b l = let e = reduced-length mix in let f = tab-length (m + m) (λ j. entry u k k *ℤ at (get_or t.rows i no_row).cells j -ℤ entry u i k *ℤ at pivot.cells j) in omega arith

    pub row_new_beyond : row_beyond (m + m) row.cells ≡ row_beyond (m + m) (new_row m k u i)
    row_new_beyond = any_ext (m + m) _ _ (λ b l. ap (above table_limit) (row_new b l))

    pub turning_changed : row_beyond (m + m) row.cells ≡ false → Turning m k u (i + 1) (record { rows = set t.rows i row })
    turning_changed small =
        turning_more (record { rows = set t.rows i row })
        (λ b l. ap (λ (r : Row). at r.cells b) (get_or-set_same t.rows i row no_row h12) ∙ row_new b l)
        (λ a b d. ap (λ (r : Row). at r.cells b) (get_or-set_other t.rows i a row no_row d))
        (sym row_new_beyond ∙ small)

    pub row_too_large : row_beyond (m + m) row.cells ≡ true → any m (λ a. row_beyond (m + m) (new_row m k u a)) ≡ true
    row_too_large e = some-any m (λ a. row_beyond (m + m) (new_row m k u a)) i h (sym row_new_beyond ∙ e)
