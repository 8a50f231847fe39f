-- The lists of rows that were written to the end, and of those that were not.
use Rattle.std.proofs.Common.{◌≡◌, ℕ, ◌<◌, Bool, true, false, cond, not, ◌&&◌, ◌||◌, List, [], length, Ok, Err, Result, sym, refl, ap, ◌∙◌, ap₂}
use Rattle.std.proofs.lemmas.Bool.{eq-eqb}
use Rattle.records.specs.Outcomes.{guard}
use Rattle.records.specs.declared.refusal.Refusal.{Refusal}
use Rattle.records.specs.declared.refusal.Refusal.TheVariants.{Unfit, GapTooLarge, Impossible}
use Rattle.whole.specs.Lists.{coord}
use Rattle.whole.specs.Tests.{any, above, nonzero}
use Rattle.whole.proofs.Lists.{tab-length}
use Rattle.whole.proofs.Tests.{some-any, none_any}
use Rattle.linear.specs.Elimination.{Grid}
use Rattle.rules.specs.Values.{Coords, written}
use Rattle.rules.specs.Gripping.{is_needed}
use Rattle.rules.specs.Pulling.{carried, contradicts, divisors, lowered, lowered_sums, some_above}
use Rattle.fractions.proofs.Refusing.{guard_ok}
use Rattle.fractions.proofs.Stopping.{stopped_lists, unstopped_lists}
use Rattle.residuals.specs.Written.{residuals_written, carried_written, rows_written}

module _ (size m : ℕ) (cs found : List Coords) (filled : length cs ≡ m) (long : length found ≡ m) where
  large : ℕ → Bool
  large i = any size (λ c. above 300000000 (coord cs i c))

  pub gap_stops : (i : ℕ) → i < m → ((k : ℕ) → k < i → any size (λ c. above 300000000 (coord cs k c)) ≡ false) → any size (λ c. above 300000000 (coord cs i c)) ≡ true
      → (xs : List Coords) → xs ≡ written i cs found → (Err GapTooLarge, xs) ≡ residuals_written size m cs found
  unfolding large
  gap_stops i l before here xs is = ap₂ (λ (b : Bool) (x : List Coords). (guard b GapTooLarge (Ok tt), x)) (sym (some-any m large i l here)) (stopped_lists m large cs found [] filled long i l before here xs is)

  pub gaps_end : ((k : ℕ) → k < m → any size (λ c. above 300000000 (coord cs k c)) ≡ false) → (xs : List Coords) → xs ≡ cs → (Ok tt, xs) ≡ residuals_written size m cs found
  unfolding large
  gaps_end none xs is =
      let e = none_any m large none in
      ap₂ (λ (b : Bool) (x : List Coords). (guard b GapTooLarge (Ok tt), x)) (sym e) (is ∙ sym (unstopped_lists m large cs found [] filled e))

module _ (size m : ℕ) (t : Grid) (cs : List Coords) (ps : List ℕ) (us : List Coords) (few : length ps ≡ m) (long : length us ≡ m) where
  abbrev gs : List Coords
  gs = carried size m t cs

  abbrev numbers : List ℕ
  numbers = lowered m t (divisors m t (carried size m t cs))

  abbrev sums : List Coords
  sums = lowered_sums size m (carried size m t cs) (divisors m t (carried size m t cs))

  off : ℕ → Bool
  off i = not (is_needed t i) && any size (λ c. nonzero (coord (carried size m t cs) i c))

  pub row_stops : (i : ℕ) → i < m → ((k : ℕ) → k < i → (not (is_needed t k) && any size (λ c. nonzero (coord gs k c))) ≡ false) → (not (is_needed t i) && any size (λ c. nonzero (coord gs i c))) ≡ true
      → (qs : List ℕ) → qs ≡ written i numbers ps → (xs : List Coords) → xs ≡ written i sums us → (Err Impossible, qs, xs) ≡ carried_written size m t cs ps us
  unfolding off
  row_stops i l before here qs a xs b =
      λ j. (guard (sym (some-any m off i l here) j) Impossible (Ok tt), stopped_lists m off numbers ps 0 (tab-length m _) few i l before here qs a j, stopped_lists m off sums us [] (tab-length m _) long i l before here xs b j)

  pub rows_end : ((k : ℕ) → k < m → (not (is_needed t k) && any size (λ c. nonzero (coord gs k c))) ≡ false) → (qs : List ℕ) → qs ≡ numbers → (xs : List Coords) → xs ≡ sums
      → (Ok tt, qs, xs) ≡ carried_written size m t cs ps us
  unfolding off
  rows_end none qs a xs b =
      let e = none_any m off none in
      λ j. (guard (sym e j) Impossible (Ok tt), (a ∙ sym (unstopped_lists m off numbers ps 0 (tab-length m _) e)) j, (b ∙ sym (unstopped_lists m off sums us [] (tab-length m _) e)) j)

-- no residual was too large
pub gaps_fine : (size m : ℕ) (cs found : List Coords) → length cs ≡ m → (xs : List Coords) → (Ok tt, xs) ≡ residuals_written size m cs found → (some_above 300000000 size m cs ≡ false) × (xs ≡ cs)
gaps_fine size m cs found filled xs e =
    let r = guard_ok (some_above 300000000 size m cs) GapTooLarge tt tt (ap (λ (z : Result (Unit {0}) Refusal × List Coords). z.0) e) in
    (r.1, ap (λ (z : Result (Unit {0}) Refusal × List Coords). z.1) e ∙ unstopped_lists m (λ i. any size (λ c. above 300000000 (coord cs i c))) cs found [] filled r.1)

-- all three lists
module _ (size m : ℕ) (t : Grid) (cs found : List Coords) (ps : List ℕ) (us : List Coords) (a : length found ≡ m) (b : length ps ≡ m) (c : length us ≡ m) where
  abbrev All : Type 0
  All = Result (Unit {0}) Refusal × List Coords × List ℕ × List Coords

  outcome : Bool → Bool → All
  outcome other large =
      let r = residuals_written size m cs found in
      let w = carried_written size m t cs ps us in
      cond other (Err Unfit, found, ps, us) (cond large (r.0, r.1, ps, us) (w.0, cs, w.1, w.2))

  by : (large : Bool) → some_above 300000000 size m cs ≡ large → rows_written size m t cs found ps us ≡ outcome false large
  unfolding outcome
  by large e = ap₂ outcome (λ i. not (eq-eqb (length found) m a i) || not (eq-eqb (length ps) m b i) || not (eq-eqb (length us) m c i)) e

  pub rows_told : some_above 300000000 size m cs ≡ false → (r : Result (Unit {0}) Refusal) (xs : List Coords) (qs : List ℕ) (ys : List Coords) → xs ≡ cs → (r, qs, ys) ≡ carried_written size m t cs ps us
      → (r, xs, qs, ys) ≡ rows_written size m t cs found ps us
  unfolding outcome
  rows_told e r xs qs ys h w = (λ i. ((w i).0, h i, (w i).1, (w i).2)) ∙ sym (by false e)

-- what the answer for all three lists says
module _ (size m : ℕ) (t : Grid) (cs found : List Coords) (ps : List ℕ) (us : List Coords) (a : length found ≡ m) (b : length ps ≡ m) (c : length us ≡ m) where
  pub rows_answer : (r : Result (Unit {0}) Refusal) (xs : List Coords) (qs : List ℕ) (ys : List Coords) → (r, xs, qs, ys) ≡ rows_written size m t cs found ps us
      → r ≡ guard (some_above 300000000 size m cs) GapTooLarge (guard (contradicts size m t (carried size m t cs)) Impossible (Ok tt))
  unfolding outcome
  rows_answer r xs qs ys e = told (some_above 300000000 size m cs) refl
    where
      told : (large : Bool) → some_above 300000000 size m cs ≡ large → r ≡ guard large GapTooLarge (guard (contradicts size m t (carried size m t cs)) Impossible (Ok tt))
      told true h = ap (λ (z : All size m t cs found ps us a b c). z.0) (e ∙ by size m t cs found ps us a b c true h) ∙ ap (λ (l : Bool). guard l GapTooLarge (Ok tt)) h
      told false h = ap (λ (z : All size m t cs found ps us a b c). z.0) (e ∙ by size m t cs found ps us a b c false h)

  pub rows_lowered : some_above 300000000 size m cs ≡ false → contradicts size m t (carried size m t cs) ≡ false → (r : Result (Unit {0}) Refusal) (xs : List Coords) (qs : List ℕ) (ys : List Coords)
      → (r, xs, qs, ys) ≡ rows_written size m t cs found ps us
      → (qs ≡ lowered m t (divisors m t (carried size m t cs))) × (ys ≡ lowered_sums size m (carried size m t cs) (divisors m t (carried size m t cs)))
  unfolding outcome off
  rows_lowered small fair r xs qs ys e =
      let whole = e ∙ by size m t cs found ps us a b c false small in (
        ap (λ (z : All size m t cs found ps us a b c). z.2) whole ∙ unstopped_lists m (off size m t cs ps us b c) (lowered m t (divisors m t (carried size m t cs))) ps 0 (tab-length m _) fair,
        ap (λ (z : All size m t cs found ps us a b c). z.3) whole ∙ unstopped_lists m (off size m t cs ps us b c) (lowered_sums size m (carried size m t cs) (divisors m t (carried size m t cs))) us [] (tab-length m _) fair,
      )
