-- The rows in lowest terms give what the rules have.
use Rattle.std.proofs.Common.{◌≡◌, ℕ, zero, suc, ◌*◌, ◌/◌, ◌<◌, ◌≤◌, Bool, true, false, cond, not, ◌&&◌, ◌||◌, ltb, ◌⊎◌, List, [], ◌∷◌, length, get_or, ℤ, pos, negsuc, ◌*ℤ◌, nat_abs, Result, sym, refl, ap, ◌∙◌, subst, ap₂, inl, inr, arith}
use native.Mathlib.Nat.{zero-div, mul-div_cancel'}
use Prim.Native.Nat.{◌∣◌}
use lib.IntN.{*ℤ_comm}
use lib.Signed.{quot_z}
use Rattle.std.proofs.lemmas.Bool.{lt-ltb, and_cases, not-false}
use Rattle.records.specs.Outcomes.{guard}
use Rattle.records.specs.declared.refusal.Refusal.{Refusal}
use Rattle.records.specs.declared.refusal.Refusal.TheVariants.{TooFine}
use Rattle.records.specs.declared.relation.Relation.{Relation}
use Rattle.records.specs.declared.role.Role.{Role}
use Rattle.whole.specs.Lists.{tab, at, coord}
use Rattle.whole.specs.Sums.{sum_below}
use Rattle.whole.specs.Tests.{any, above, nonzero}
use Rattle.whole.specs.Gcd.{lcm, gcd_all}
use Rattle.whole.proofs.Divisors.{gcd_all-divides}
use Rattle.whole.proofs.Lists.{tab-length, tab_ext, get_or-tab, at-tab}
use Rattle.whole.proofs.Sums.{sum_ext}
use Rattle.whole.proofs.Tests.{any_ext, any_false, none_any, nonzero_false}
use Rattle.linear.specs.Elimination.{Grid, entry}
use Rattle.rules.specs.Values.{Coords}
use Rattle.rules.specs.Sheets.{relation_at}
use Rattle.rules.specs.Gripping.{role, coef, is_needed}
use Rattle.rules.specs.Pulling.{Placing, divisors, lowered, lowered_sums, common, multipliers, numerator, numerators, lowest, settled, some_above, some_needed_above, contradicts, solved}
use Rattle.residuals.specs.Rows.{chosen}
use Rattle.fractions.specs.Multiple.{multiple, times, strays, multiplied}
use Rattle.pulls.specs.Finish.{all_multiplied}
use Rattle.pulls.specs.Finish.{numerators_by, finished}
use Rattle.residuals.proofs.Chosen.{many-chosen, picked_coef}

above-needed : (x : ℤ) (h : ℕ) → h ∣ nat_abs x → ltb 0 (nat_abs x / h) ≡ nonzero x
above-needed (pos zero) h d = ap (ltb 0) (zero-div h)
above-needed (pos (suc n)) h d = lt-ltb 0 (suc n / h) (by (suc n / h) (mul-div_cancel' h d))
  where
    by : (q : ℕ) → h * q ≡ suc n → 0 < q
    by zero p = absurd (omega arith)
    by (suc q) p = omega arith
above-needed (negsuc n) h d = lt-ltb 0 (suc n / h) (by (suc n / h) (mul-div_cancel' h d))
  where
    by : (q : ℕ) → h * q ≡ suc n → 0 < q
    by zero p = absurd (omega arith)
    by (suc q) p = omega arith

any_or : (n : ℕ) (p q : ℕ → Bool) → any n (λ i. p i || q i) ≡ any n p || any n q
any_or zero p q = refl
any_or (suc n) p q = ap (λ (b : Bool). b || (p n || q n)) (any_or n p q) ∙ mixed (any n p) (any n q) (p n) (q n)
  where
    mixed : (a b c d : Bool) → (a || b) || (c || d) ≡ (a || c) || (b || d)
    mixed true b c d = refl
    mixed false true true d = refl
    mixed false true false d = refl
    mixed false false true d = refl
    mixed false false false d = refl

or_assoc : (a b c : Bool) → a || (b || c) ≡ a || b || c
or_assoc true b c = refl
or_assoc false b c = refl

module _ (size m : ℕ) (t : Grid) (gs : List Coords) (l : ℕ) (fair : contradicts size m t gs ≡ false) where
  number : (i : ℕ) → i < m → (d : ℕ) → get_or (lowered m t (divisors m t gs)) i d ≡ nat_abs (entry t i i) / get_or (divisors m t gs) i 1
  number i b d = get_or-tab m (λ i. nat_abs (entry t i i) / get_or (divisors m t gs) i 1) d i b

  needed : (i : ℕ) → i < m → ltb 0 (get_or (lowered m t (divisors m t gs)) i 0) ≡ is_needed t i
  needed i b = ap (ltb 0) (number i b 0) ∙ above-needed (entry t i i) (get_or (divisors m t gs) i 1)
      (subst (λ (h : ℕ). h ∣ nat_abs (entry t i i)) (sym (get_or-tab m (λ i. gcd_all (entry t i i ∷ get_or gs i [])) 1 i b)) (gcd_all-divides (entry t i i ∷ get_or gs i []) 0))

  pub multiple-common : (k : ℕ) → k ≤ m → multiple k (lowered m t (divisors m t gs)) ≡ common k t (lowered m t (divisors m t gs))
  multiple-common zero h = refl
  multiple-common (suc k) h =
      ap₂ (λ (x : ℕ) (b : Bool). cond b (lcm x (get_or (lowered m t (divisors m t gs)) k 0)) x) (multiple-common k (omega arith)) (needed k (omega arith))
      ∙ ap (λ (p : ℕ). cond (is_needed t k) (lcm (common k t (lowered m t (divisors m t gs))) p) (common k t (lowered m t (divisors m t gs)))) (number k (omega arith) 0 ∙ sym (number k (omega arith) 1))

  -- a spare row carries zero
  pub spare_zero : (i : ℕ) → i < m → is_needed t i ≡ false → (c : ℕ) → c < size → coord (lowered_sums size m gs (divisors m t gs)) i c ≡ pos 0
  spare_zero i b e c k =
      ap (λ (u : Coords). at u c) (get_or-tab m (λ i. tab size (λ c. quot_z (coord gs i c) (pos (get_or (divisors m t gs) i 1)))) [] i b)
      ∙ at-tab size (λ c. quot_z (coord gs i c) (pos (get_or (divisors m t gs) i 1))) c k
      ∙ ap (λ (x : ℤ). quot_z x (pos (get_or (divisors m t gs) i 1))) none ∙ ap pos (zero-div (get_or (divisors m t gs) i 1))
    where
      by : ((not (is_needed t i) ≡ false) ⊎ (any size (λ c. nonzero (coord gs i c)) ≡ false)) → any size (λ c. nonzero (coord gs i c)) ≡ false
      by (inl f) = absurd (mathlib.Core.Bool.true≢false (sym (not-false (is_needed t i) f) ∙ e))
      by (inr f) = f

      none : coord gs i c ≡ pos 0
      none = nonzero_false (coord gs i c) (any_false size (λ c. nonzero (coord gs i c))
          (by (and_cases (not (is_needed t i)) (any size (λ c. nonzero (coord gs i c))) (any_false m (λ i. not (is_needed t i) && any size (λ c. nonzero (coord gs i c))) fair i b))) c k)

  pub spare-number : (i : ℕ) → i < m → get_or (lowered m t (divisors m t gs)) i 0 ≡ 0 → (c : ℕ) → c < size → coord (lowered_sums size m gs (divisors m t gs)) i c ≡ pos 0
  spare-number i b e = spare_zero i b (sym (needed i b) ∙ ap (ltb 0) e)

  sums_long : (i : ℕ) → i < m → get_or (lowered_sums size m gs (divisors m t gs)) i [] ≡ tab size (λ c. quot_z (coord gs i c) (pos (get_or (divisors m t gs) i 1)))
  sums_long i b = get_or-tab m (λ i. tab size (λ c. quot_z (coord gs i c) (pos (get_or (divisors m t gs) i 1)))) [] i b

  multiplied_row : (i : ℕ) → i < m → multiplied size l (get_or (lowered m t (divisors m t gs)) i 0) (get_or (lowered_sums size m gs (divisors m t gs)) i [])
      ≡ tab size (λ c. cond (is_needed t i) (pos (l / get_or (lowered m t (divisors m t gs)) i 1) *ℤ coord (lowered_sums size m gs (divisors m t gs)) i c) (pos 0))
  multiplied_row i b =
      ap₂ (λ (x : Bool) (p : ℕ). cond x (times size l p (get_or (lowered_sums size m gs (divisors m t gs)) i [])) (get_or (lowered_sums size m gs (divisors m t gs)) i [])) (needed i b) (number i b 0 ∙ sym (number i b 1))
      ∙ by (is_needed t i) refl
    where
      by : (x : Bool) → is_needed t i ≡ x → cond x (times size l (get_or (lowered m t (divisors m t gs)) i 1) (get_or (lowered_sums size m gs (divisors m t gs)) i [])) (get_or (lowered_sums size m gs (divisors m t gs)) i [])
          ≡ tab size (λ c. cond x (pos (l / get_or (lowered m t (divisors m t gs)) i 1) *ℤ coord (lowered_sums size m gs (divisors m t gs)) i c) (pos 0))
      by true e = refl
      by false e = sums_long i b ∙ tab_ext size _ _ (λ c k. sym (ap (λ (u : Coords). at u c) (sums_long i b) ∙ at-tab size (λ c. quot_z (coord gs i c) (pos (get_or (divisors m t gs) i 1))) c k) ∙ spare_zero i b e c k)

  pub long : length (lowered m t (divisors m t gs)) ≡ m
  long = tab-length m (λ i. nat_abs (entry t i i) / get_or (divisors m t gs) i 1)

  pub multiplied_all : all_multiplied size l (lowered m t (divisors m t gs)) (lowered_sums size m gs (divisors m t gs)) ≡ multipliers size m t l (lowered m t (divisors m t gs)) (lowered_sums size m gs (divisors m t gs))
  multiplied_all = ap (λ (n : ℕ). tab n (λ i. multiplied size l (get_or (lowered m t (divisors m t gs)) i 0) (get_or (lowered_sums size m gs (divisors m t gs)) i []))) long ∙ tab_ext m _ _ multiplied_row

  pub strays_all : any (length (lowered m t (divisors m t gs))) (λ i. strays size l (get_or (lowered m t (divisors m t gs)) i 0) (get_or (lowered_sums size m gs (divisors m t gs)) i []))
      ≡ some_needed_above 2147483647 size m t (lowered_sums size m gs (divisors m t gs)) || some_above 1000000000000 size m (multipliers size m t l (lowered m t (divisors m t gs)) (lowered_sums size m gs (divisors m t gs)))
  strays_all =
      ap (λ (n : ℕ). any n (λ i. strays size l (get_or (lowered m t (divisors m t gs)) i 0) (get_or (lowered_sums size m gs (divisors m t gs)) i []))) long
      ∙ any_ext m _ _ each
      ∙ any_or m (λ i. is_needed t i && any size (λ c. above 2147483647 (coord (lowered_sums size m gs (divisors m t gs)) i c))) (λ i. any size (λ c. above 1000000000000 (coord (multipliers size m t l (lowered m t (divisors m t gs)) (lowered_sums size m gs (divisors m t gs))) i c)))
    where
      third : (i : ℕ) → i < m → any size (λ c. above 1000000000000 (coord (multipliers size m t l (lowered m t (divisors m t gs)) (lowered_sums size m gs (divisors m t gs))) i c))
          ≡ any size (λ c. above 1000000000000 (cond (is_needed t i) (pos (l / get_or (lowered m t (divisors m t gs)) i 1) *ℤ coord (lowered_sums size m gs (divisors m t gs)) i c) (pos 0)))
      third i b = any_ext size _ _ (λ c k. ap (above 1000000000000)
          (ap (λ (u : Coords). at u c) (get_or-tab m (λ i. tab size (λ c. cond (is_needed t i) (pos (l / get_or (lowered m t (divisors m t gs)) i 1) *ℤ coord (lowered_sums size m gs (divisors m t gs)) i c) (pos 0))) [] i b)
          ∙ at-tab size (λ c. cond (is_needed t i) (pos (l / get_or (lowered m t (divisors m t gs)) i 1) *ℤ coord (lowered_sums size m gs (divisors m t gs)) i c) (pos 0)) c k))

      by : (i : ℕ) (x : Bool) → (x && (any size (λ c. above 2147483647 (coord (lowered_sums size m gs (divisors m t gs)) i c)) || any size (λ c. above 1000000000000 (pos (l / get_or (lowered m t (divisors m t gs)) i 1) *ℤ coord (lowered_sums size m gs (divisors m t gs)) i c))))
          ≡ (x && any size (λ c. above 2147483647 (coord (lowered_sums size m gs (divisors m t gs)) i c)))
          || any size (λ c. above 1000000000000 (cond x (pos (l / get_or (lowered m t (divisors m t gs)) i 1) *ℤ coord (lowered_sums size m gs (divisors m t gs)) i c) (pos 0)))
      by i true = refl
      by i false = sym (none_any size (λ c. above 1000000000000 (pos 0)) (λ c k. refl))

      each : (i : ℕ) → i < m → strays size l (get_or (lowered m t (divisors m t gs)) i 0) (get_or (lowered_sums size m gs (divisors m t gs)) i [])
          ≡ (is_needed t i && any size (λ c. above 2147483647 (coord (lowered_sums size m gs (divisors m t gs)) i c))) || any size (λ c. above 1000000000000 (coord (multipliers size m t l (lowered m t (divisors m t gs)) (lowered_sums size m gs (divisors m t gs))) i c))
      each i b =
          ap₂ (λ (x : Bool) (q : ℕ). x && (any size (λ c. above 2147483647 (coord (lowered_sums size m gs (divisors m t gs)) i c)) || any size (λ c. above 1000000000000 (pos (l / q) *ℤ coord (lowered_sums size m gs (divisors m t gs)) i c)))) (needed i b) (number i b 0 ∙ sym (number i b 1))
          ∙ by i (is_needed t i)
          ∙ ap (λ (x : Bool). (is_needed t i && any size (λ c. above 2147483647 (coord (lowered_sums size m gs (divisors m t gs)) i c))) || x) (sym (third i b))

module _ (size n : ℕ) (roles : List Role) (vs : List ℤ) (d : ℤ) (values wishes : List Coords) (rs : List Relation) (qs : List Coords) (rows : List ℕ) (t : Grid) (gs : List Coords)
    (fair : contradicts size (length (chosen n rs qs rows)) t gs ≡ false) where
  m : ℕ
  m = length (chosen n rs qs rows)

  ps : List ℕ
  unfolding m
  ps = lowered m t (divisors m t gs)

  us : List Coords
  unfolding m
  us = lowered_sums size m gs (divisors m t gs)

  same-multiple : multiple (length ps) ps ≡ common m t ps
  unfolding m ps us
  same-multiple = ap (λ (k : ℕ). multiple k ps) (long size m t gs 0 fair) ∙ multiple-common size m t gs 0 fair m (omega arith)

  same-numerators : (l : ℕ) → numerators_by size n roles vs l d values wishes rs rows (all_multiplied size l ps us) ≡ numerators size n roles vs (chosen n rs qs rows) l d values wishes (multipliers size m t l ps us)
  unfolding m ps us
  same-numerators l =
      ap (numerators_by size n roles vs l d values wishes rs rows) (multiplied_all size m t gs l fair)
      ∙ tab_ext n _ _ (λ s b. tab_ext size _ _ (λ c k. ap (numerator (role roles s) (pos l) d (coord values s c) (coord wishes s c) (at vs s))
      (sum_ext (length rows) (λ i h. *ℤ_comm (at (relation_at rs (get_or rows i 0)).coefficients s) (coord (multipliers size m t l ps us) i c) ∙ ap (λ (x : ℤ). coord (multipliers size m t l ps us) i c *ℤ x) (sym (picked_coef n rs qs rows i s h b)))
      ∙ ap (λ (q : ℕ). sum_below q (λ i. coord (multipliers size m t l ps us) i c *ℤ coef (chosen n rs qs rows) i s)) (sym (many-chosen n rs qs rows)))))

  outcome : ℕ → Result Placing Refusal
  outcome l = guard (ltb 2147483647 l || any (length ps) (λ i. strays size l (get_or ps i 0) (get_or us i []))) TooFine (settled size n (lowest size n (pos l *ℤ d) (numerators_by size n roles vs l d values wishes rs rows (all_multiplied size l ps us))))

  pub solved_is : finished size n roles vs d values wishes rs rows (lowered (length (chosen n rs qs rows)) t (divisors (length (chosen n rs qs rows)) t gs)) (lowered_sums size (length (chosen n rs qs rows)) gs (divisors (length (chosen n rs qs rows)) t gs))
      ≡ solved size n roles vs (chosen n rs qs rows) t d values wishes gs
  unfolding m ps us outcome
  solved_is =
      ap outcome same-multiple
      ∙ ap₂ (λ (b : Bool) (x : List Coords). guard b TooFine (settled size n (lowest size n (pos (common m t ps) *ℤ d) x)))
      (ap (λ (b : Bool). ltb 2147483647 (common m t ps) || b) (strays_all size m t gs (common m t ps) fair) ∙ or_assoc (ltb 2147483647 (common m t ps)) _ _)
      (same-numerators (common m t ps))
