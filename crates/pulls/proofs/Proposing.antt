-- What the rows' answer says of a pull whose wishes are on the sheet.
use Rattle.std.proofs.Common.{◌≡◌, ℕ, ◌<◌, ◌≤◌, Bool, false, List, map, length, get_or, take, ℤ, pos, Ok, Err, Result, sym, ap, ◌∙◌, subst, ap₂, arith}
use Rattle.std.proofs.lemmas.List.{length-map, length-take-le}
use Rattle.records.specs.Outcomes.{guard}
use Rattle.records.specs.declared.refusal.Refusal.{Refusal}
use Rattle.records.specs.declared.refusal.Refusal.TheVariants.{WishTooFar, GapTooLarge, Impossible}
use Rattle.records.specs.declared.relation.Relation.{Relation}
use Rattle.records.specs.declared.role.Role.{Role}
use Rattle.whole.specs.Lists.{coord}
use Rattle.linear.specs.Elimination.{Grid}
use Rattle.rules.specs.Values.{Coords}
use Rattle.rules.specs.Pulling.{Placing, far_wish, some_above, residuals, carried, contradicts, divisors, lowered, lowered_sums, solved, proposed}
use Rattle.residuals.specs.Rows.{chosen}
use Rattle.residuals.specs.Written.{rows_written}
use Rattle.residuals.proofs.Chosen.{many-chosen}
use Rattle.residuals.proofs.Written.{rows_answer, rows_lowered}
use Rattle.pulls.specs.Finish.{finished}
use Rattle.pulls.proofs.Finishing.{rows_refuse, rows_stand}
use Rattle.pulls.proofs.Solving.{long, spare-number, solved_is}

-- the first m places of a list
pub front : {K X : Type 0} (f : K → X) (m n : ℕ) (xs : List K) → m ≤ 12 → m ≡ n → length xs ≡ 12 → length (map f (take m xs)) ≡ n
front f m n xs few e long = length-map (take m xs) f ∙ length-take-le m xs (omega arith) ∙ e

module _ (size n : ℕ) (roles : List Role) (vs : List ℤ) (rs : List Relation) (qs : List Coords) (rows : List ℕ) (t : Grid) (d : ℤ) (values wishes : List Coords) (near : far_wish size n roles wishes ≡ false) where
  abbrev cs : List Coords
  cs = residuals size n roles (chosen n rs qs rows) d values wishes

  abbrev gs : List Coords
  gs = carried size (length rows) t (residuals size n roles (chosen n rs qs rows) d values wishes)

  outcome : Bool → Bool → Bool → List Coords → Result Placing Refusal
  outcome a b c x = guard a WishTooFar (guard b GapTooLarge (guard c Impossible (solved size n roles vs (chosen n rs qs rows) t d values wishes x)))

  many : length (chosen n rs qs rows) ≡ length rows
  many = many-chosen n rs qs rows

  same : proposed size n roles vs (chosen n rs qs rows) t d values wishes ≡ outcome false (some_above 300000000 size (length rows) cs) (contradicts size (length rows) t gs) gs
  unfolding outcome
  same = λ i. outcome (near i) (some_above 300000000 size (many i) cs) (contradicts size (many i) t (carried size (many i) t cs)) (carried size (many i) t cs)

  -- r is the answer, and ps and us are the rows' numbers and sums afterwards
  module _ (found : List Coords) (numbers : List ℕ) (sums : List Coords) (a : length found ≡ length rows) (b : length numbers ≡ length rows) (c : length sums ≡ length rows)
      (r : Result (Unit {0}) Refusal) (xs : List Coords) (ps : List ℕ) (us : List Coords) (e : (r, xs, ps, us) ≡ rows_written size (length rows) t cs found numbers sums) where
    answer : r ≡ guard (some_above 300000000 size (length rows) cs) GapTooLarge (guard (contradicts size (length rows) t gs) Impossible (Ok tt))
    answer = rows_answer size (length rows) t cs found numbers sums a b c r xs ps us e

    pub refused : (x : Refusal) → r ≡ Err x → Err x ≡ proposed size n roles vs (chosen n rs qs rows) t d values wishes
    unfolding outcome
    refused x h =
        rows_refuse (some_above 300000000 size (length rows) cs) (contradicts size (length rows) t gs) (solved size n roles vs (chosen n rs qs rows) t d values wishes gs) x (sym answer ∙ h)
        ∙ sym same

    module _ (stand : r ≡ Ok tt) where
      fine : (some_above 300000000 size (length rows) cs ≡ false) × (contradicts size (length rows) t gs ≡ false)
      fine = rows_stand _ _ (sym answer ∙ stand)

      lists : (ps ≡ lowered (length rows) t (divisors (length rows) t gs)) × (us ≡ lowered_sums size (length rows) gs (divisors (length rows) t gs))
      lists = rows_lowered size (length rows) t cs found numbers sums a b c fine.0 fine.1 r xs ps us e

      -- a spare row carries zero
      pub spare : (i : ℕ) → i < length ps → get_or ps i 0 ≡ 0 → (k : ℕ) → k < size → coord us i k ≡ pos 0
      spare i l z k h =
          ap (λ (x : List Coords). coord x i k) lists.1
          ∙ spare-number size (length rows) t gs 0 fine.1 i (subst (λ (m : ℕ). i < m) (ap length lists.0 ∙ long size (length rows) t gs 0 fine.1) l) (ap (λ (x : List ℕ). get_or x i 0) (sym lists.0) ∙ z) k h

      pub goes_on : finished size n roles vs d values wishes rs rows ps us ≡ proposed size n roles vs (chosen n rs qs rows) t d values wishes
      unfolding outcome
      goes_on =
          ap₂ (finished size n roles vs d values wishes rs rows) lists.0 lists.1
          ∙ ap (λ (k : ℕ). finished size n roles vs d values wishes rs rows (lowered k t (divisors k t gs)) (lowered_sums size k gs (divisors k t gs))) (sym many)
          ∙ solved_is size n roles vs d values wishes rs qs rows t gs (ap (λ (k : ℕ). contradicts size k t gs) many ∙ fine.1)
          ∙ sym (same ∙ ap₂ (λ (b c : Bool). outcome false b c gs) fine.0 fine.1)
