-- Diagonal numbers and what their rows carry, in lowest terms.
use Rattle.std.proofs.Common.{◌≡◌, ℕ, zero, suc, ◌+◌, ◌/◌, ◌<◌, Bool, true, false, cond, not, ◌&&◌, eqb, ltb, List, [], ◌∷◌, length, get_or, ℤ, pos, ◌*ℤ◌, nat_abs, Ok, Err, Result, sym, refl, ap, ◌∙◌, ap₂, arith}
use native.Mathlib.Nat.{zero-div}
use lib.Signed.{quot_z}
use Rattle.std.proofs.lemmas.Bool.{lt-ltb, ne_eqb}
use Rattle.records.specs.Outcomes.{guard}
use Rattle.records.specs.declared.refusal.Refusal.{Refusal}
use Rattle.records.specs.declared.refusal.Refusal.TheVariants.{Impossible}
use Rattle.whole.specs.Lists.{tab, at, coord}
use Rattle.whole.specs.Sums.{sum_below}
use Rattle.whole.specs.Tests.{any, above, nonzero}
use Rattle.whole.proofs.Lists.{tab-length, tab_ext, get_or-tab, at-tab}
use Rattle.whole.proofs.Sums.{sum_ext}
use Rattle.whole.proofs.Tests.{any_false, any_ext, nonzero_false}
use Rattle.linear.specs.Elimination.{Grid, entry, right_half}
use Rattle.rules.specs.Values.{Coords}
use Rattle.rules.specs.Gripping.{is_needed}
use Rattle.rules.specs.Pulling.{carried, divisors, lowered, lowered_sums}
use Rattle.sheets.proofs.Gaps.{above-nonzero}
use Rattle.fractions.specs.Steps.{divisor_from, quotients}
use Rattle.fractions.proofs.Refusing.{guard_ok, guard_err}
use Rattle.residuals.specs.Steps.{lower, carried_at}
use Rattle.whole.specs.Gcd.{gcd_all}
use Rattle.fractions.proofs.Placed.{tabbed}
use Rattle.fractions.proofs.Divisors.{divisor_of_all}

module _ (size p : ℕ) (us : Coords) where
  same_test : any size (λ c. above 0 (at us c)) ≡ any size (λ c. nonzero (at us c))
  same_test = any_ext size _ _ (λ c l. above-nonzero (at us c))

  result : Bool → Result (ℕ × Coords) Refusal
  result b = guard b Impossible (Ok (p / divisor_from p us, quotients size us (pos (divisor_from p us))))

  pub lower-spare : length us ≡ size → p ≡ 0 → any size (λ c. above 0 (at us c)) ≡ false → Ok (0, us) ≡ lower size p us
  unfolding result
  lower-spare sized e h =
      ap₂ (λ (a : ℕ) (b : Coords). Ok (a, b)) number sums
      ∙ sym (ap₂ (λ (a b : Bool). result (a && b)) (ap (λ (q : ℕ). eqb q 0) e) (sym same_test ∙ h))
    where
      number : 0 ≡ p / divisor_from p us
      number = sym (ap (λ (q : ℕ). q / divisor_from p us) e ∙ zero-div (divisor_from p us))

      zero_at : (c : ℕ) → c < size → at us c ≡ pos 0
      zero_at c l = nonzero_false (at us c) (any_false size (λ c. nonzero (at us c)) (sym same_test ∙ h) c l)

      sums : us ≡ quotients size us (pos (divisor_from p us))
      sums = tabbed size us (λ c. quot_z (at us c) (pos (divisor_from p us))) sized
          (λ c l. zero_at c l ∙ sym (ap (λ (x : ℤ). quot_z x (pos (divisor_from p us))) (zero_at c l) ∙ ap pos (zero-div (divisor_from p us))))

  pub lower-needed : 0 < p → (q : ℕ) (vs : Coords) → q ≡ p / divisor_from p us → vs ≡ quotients size us (pos (divisor_from p us)) → Ok (q, vs) ≡ lower size p us
  unfolding result
  lower-needed h q vs e f =
      ap₂ (λ (a : ℕ) (b : Coords). Ok (a, b)) e f ∙ sym (ap (λ (a : Bool). result (a && any size (λ c. nonzero (at us c)))) (ne_eqb p 0 (λ z. omega arith)))

  -- what an accepted row and a refused one say
  pub lower_ok : (q : ℕ) (vs : Coords) → Ok (q, vs) ≡ lower size p us → (q ≡ p / divisor_from p us) × (vs ≡ quotients size us (pos (divisor_from p us))) × ((eqb p 0 && any size (λ c. nonzero (at us c))) ≡ false)
  lower_ok q vs h =
      let r = guard_ok (eqb p 0 && any size (λ c. nonzero (at us c))) Impossible (p / divisor_from p us, quotients size us (pos (divisor_from p us))) (q, vs) h in
      (ap (λ (x : ℕ × Coords). x.0) r.0, ap (λ (x : ℕ × Coords). x.1) r.0, r.1)

  pub lower_err : (x : Refusal) → Err x ≡ lower size p us → (x ≡ Impossible) × ((eqb p 0 && any size (λ c. nonzero (at us c))) ≡ true)
  lower_err x h = guard_err (eqb p 0 && any size (λ c. nonzero (at us c))) Impossible (p / divisor_from p us, quotients size us (pos (divisor_from p us))) x h

-- the rows of a table over the residuals cs
module _ (size m : ℕ) (t : Grid) (cs : List Coords) where
  pub right_long : (i : ℕ) → i < m → (row : List ℤ) → row ≡ cond (ltb i m) (tab m (right_half m t i)) [] → length row ≡ m
  right_long i l row e = ap length (e ∙ ap (λ (b : Bool). cond b (tab m (right_half m t i)) []) (lt-ltb i m l)) ∙ tab-length m (right_half m t i)

  pub carried_found : (i : ℕ) → i < m → (row : List ℤ) (us : Coords) → row ≡ cond (ltb i m) (tab m (right_half m t i)) [] → us ≡ tab size (carried_at (length row) row cs) → us ≡ get_or (carried size m t cs) i []
  carried_found i l row us e is = is ∙ tab_ext size _ _ (λ c h. ap (λ (n : ℕ). carried_at n row cs c) long ∙ sum_ext m (λ j b. ap (λ (x : ℤ). x *ℤ coord cs j c) (place j b)))
      ∙ sym (get_or-tab m (λ i. tab size (λ c. sum_below m (λ j. entry t i (m + j) *ℤ coord cs j c))) [] i l)
    where
      whole : row ≡ tab m (right_half m t i)
      whole = e ∙ ap (λ (b : Bool). cond b (tab m (right_half m t i)) []) (lt-ltb i m l)

      long : length row ≡ m
      long = right_long i l row e

      place : (j : ℕ) → j < m → at row j ≡ entry t i (m + j)
      place j b = ap (λ (r : List ℤ). at r j) whole ∙ at-tab m (right_half m t i) j b

  module _ (i p : ℕ) (l : i < m) (e : pos p ≡ entry t i i) where
    divisor_row : get_or (divisors m t (carried size m t cs)) i 1 ≡ divisor_from p (get_or (carried size m t cs) i [])
    divisor_row = get_or-tab m (λ i. gcd_all (entry t i i ∷ get_or (carried size m t cs) i [])) 1 i l ∙ divisor_of_all (entry t i i) (get_or (carried size m t cs) i [])
        ∙ ap (λ (x : ℤ). divisor_from (nat_abs x) (get_or (carried size m t cs) i [])) (sym e)

    pub lowered_row : get_or (lowered m t (divisors m t (carried size m t cs))) i 0 ≡ p / divisor_from p (get_or (carried size m t cs) i [])
    lowered_row = get_or-tab m (λ i. nat_abs (entry t i i) / get_or (divisors m t (carried size m t cs)) i 1) 0 i l
        ∙ ap₂ (λ (x : ℤ) (h : ℕ). nat_abs x / h) (sym e) divisor_row

    pub sums_row : get_or (lowered_sums size m (carried size m t cs) (divisors m t (carried size m t cs))) i [] ≡ quotients size (get_or (carried size m t cs) i []) (pos (divisor_from p (get_or (carried size m t cs) i [])))
    sums_row = get_or-tab m (λ i. tab size (λ c. quot_z (coord (carried size m t cs) i c) (pos (get_or (divisors m t (carried size m t cs)) i 1)))) [] i l
        ∙ ap (λ (h : ℕ). quotients size (get_or (carried size m t cs) i []) (pos h)) divisor_row

    -- a spare row is one whose diagonal number is 0
    pub spare_row : (not (is_needed t i) && any size (λ c. nonzero (coord (carried size m t cs) i c))) ≡ (eqb p 0 && any size (λ c. nonzero (coord (carried size m t cs) i c)))
    spare_row = ap (λ (b : Bool). b && any size (λ c. nonzero (coord (carried size m t cs) i c))) (ap (λ (x : ℤ). not (nonzero x)) (sym e) ∙ zero_test p)
      where
        zero_test : (p : ℕ) → not (nonzero (pos p)) ≡ eqb p 0
        zero_test zero = refl
        zero_test (suc p) = sym (ne_eqb (suc p) 0 (λ z. omega arith))

    pub row_ok : (us : Coords) → us ≡ get_or (carried size m t cs) i [] → (q : ℕ) (vs : Coords) → Ok (q, vs) ≡ lower size p us
        → (q ≡ get_or (lowered m t (divisors m t (carried size m t cs))) i 0) × (vs ≡ get_or (lowered_sums size m (carried size m t cs) (divisors m t (carried size m t cs))) i [])
        × ((not (is_needed t i) && any size (λ c. nonzero (coord (carried size m t cs) i c))) ≡ false)
    row_ok us u q vs h =
        let r = lower_ok size p (get_or (carried size m t cs) i []) q vs (h ∙ ap (lower size p) u) in
        (r.0 ∙ sym lowered_row, r.1 ∙ sym sums_row, spare_row ∙ r.2)

    pub row_err : (us : Coords) → us ≡ get_or (carried size m t cs) i [] → (x : Refusal) → Err x ≡ lower size p us
        → (x ≡ Impossible) × ((not (is_needed t i) && any size (λ c. nonzero (coord (carried size m t cs) i c))) ≡ true)
    row_err us u x h =
        let r = lower_err size p (get_or (carried size m t cs) i []) x (h ∙ ap (lower size p) u) in
        (r.0, spare_row ∙ r.1)
