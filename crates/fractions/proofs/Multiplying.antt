-- The common multiple taken up one number at a time, and a row's multiplier.
use Rattle.std.proofs.Common.{◌≡◌, ℕ, zero, suc, ◌+◌, ◌/◌, ◌<◌, ◌≤◌, Bool, true, false, cond, ◌&&◌, ◌||◌, ltb, List, length, get_or, replicate, ℤ, pos, ◌*ℤ◌, nat_abs, Ok, Err, Result, sym, refl, ap, ◌∙◌, subst, ap₂, le_trans, add-one, arith}
use native.Mathlib.Nat.{le_of_dvd}
use native.Mathlib.Decide.{dec_lt}
use lib.IntN.{+ℤ_idl}
use Rattle.std.proofs.lemmas.Bool.{lt-ltb, ltb-true}
use Rattle.records.specs.Outcomes.{guard}
use Rattle.records.specs.declared.refusal.Refusal.{Refusal}
use Rattle.records.specs.declared.refusal.Refusal.TheVariants.{TooFine}
use Rattle.whole.specs.Lists.{at}
use Rattle.whole.specs.Tests.{any, above}
use Rattle.whole.specs.Gcd.{lcm}
use Rattle.whole.proofs.Lists.{at-tab}
use Rattle.whole.proofs.Tests.{any_ext, any_false, above_false}
use Rattle.whole.proofs.Multiples.{lcm-left, lcm-above}
use Rattle.rules.specs.Values.{Coords}
use Rattle.rules.proofs.Bounds.{multiplier_within}
use Rattle.fractions.specs.Steps.{plus}
use Rattle.fractions.specs.Multiple.{taken_up, multiple, times, strays, multiplied}
use Rattle.fractions.proofs.Placed.{tabbed}
use Rattle.fractions.proofs.Adding.{added}
use Rattle.fractions.proofs.Zeros.{zero_at, zero_length}

-- ---- the common multiple
taken_up-≥ : (l p : ℕ) → 0 < l → l ≤ taken_up l p
taken_up-≥ l p h = by (ltb 0 p) refl
  where
    by : (b : Bool) → ltb 0 p ≡ b → l ≤ cond b (lcm l p) l
    by true e = le_of_dvd (lcm-above l p h (ltb-true 0 p e)) (lcm-left l p)
    by false e = omega arith

pub multiple-above : (k : ℕ) (ps : List ℕ) → 0 < multiple k ps
multiple-above zero ps = omega arith
multiple-above (suc k) ps = let a = multiple-above k ps in let b = taken_up-≥ (multiple k ps) (get_or ps k 0) a in omega arith

pub multiple_up : (k n : ℕ) (ps : List ℕ) → k ≤ n → multiple k ps ≤ multiple n ps
multiple_up k zero ps h = subst (λ (j : ℕ). multiple j ps ≤ 1) (sym none) (omega arith)
  where
    none : k ≡ 0
    none = omega arith
multiple_up k (suc n) ps h = by (dec_lt n k) (λ b. multiple_up k n ps b)
  where
    by : Dec (n < k) → (k ≤ n → multiple k ps ≤ multiple n ps) → multiple k ps ≤ multiple (suc n) ps
    by (yes b) ih = subst (λ (j : ℕ). multiple j ps ≤ multiple (suc n) ps) (sym last) (omega arith)
      where
        last : k ≡ suc n
        last = omega arith
    by (no b) ih = le_trans (ih (omega arith)) (taken_up-≥ (multiple n ps) (get_or ps n 0) (multiple-above n ps))

pub multiple_more : (k : ℕ) (ps : List ℕ) → multiple (k + 1) ps ≡ taken_up (multiple k ps) (get_or ps k 0)
multiple_more k ps = ap (λ (j : ℕ). multiple j ps) (add-one k)

pub beyond-multiple : (l : ℕ) → 2147483647 < l → Err TooFine ≡ guard (ltb 2147483647 l) TooFine (Ok l)
beyond-multiple l h = sym (ap (λ (b : Bool). guard b TooFine (Ok l)) (lt-ltb 2147483647 l h))

-- ---- a row's multiplier
module _ (size l p : ℕ) (us : Coords) (few : l ≤ 2147483647) where
  result : Bool → Bool → Bool → Result Coords Refusal
  result a b c = guard (a && (b || c)) TooFine (Ok (cond a (times size l p us) us))

  module _ (none ws : List ℤ) (k : ℤ) (h : 0 < p) (small : any size (λ c. above 2147483647 (at us c)) ≡ false) (zeros : none ≡ replicate size (pos 0)) (sized : length ws ≡ size) (factor : k ≡ pos (l / p)) (is : ws ≡ plus none k us) where
    pub product : ws ≡ times size l p us
    product = tabbed size ws (λ c. pos (l / p) *ℤ at us c) sized
        (added size none (pos (l / p)) us ws 4611686014132420609 (λ c. pos 0) (λ c. pos (l / p) *ℤ at us c) (omega arith) (zero_length size none zeros) (is ∙ ap (λ (z : ℤ). plus none z us) factor)
        (λ c b. zero_at size none zeros c) (λ c b. +ℤ_idl (pos (l / p) *ℤ at us c)) within within)
      where
        within : (c : ℕ) → c < size → nat_abs (pos (l / p) *ℤ at us c) ≤ 4611686014132420609
        within c b = multiplier_within l p (at us c) few (above_false 2147483647 (at us c) (any_false size _ small c b))

    tests : any size (λ c. above 1000000000000 (at ws c)) ≡ any size (λ c. above 1000000000000 (pos (l / p) *ℤ at us c))
    tests = any_ext size _ _ (λ c b. ap (above 1000000000000) (ap (λ (x : List ℤ). at x c) product ∙ at-tab size (λ c. pos (l / p) *ℤ at us c) c b))

    pub product-strays : any size (λ c. above 1000000000000 (at ws c)) ≡ true → Err TooFine ≡ guard (strays size l p us) TooFine (Ok (multiplied size l p us))
    unfolding result
    product-strays e = sym (ap (λ (a : Bool). result a (any size (λ c. above 2147483647 (at us c))) (any size (λ c. above 1000000000000 (pos (l / p) *ℤ at us c)))) (lt-ltb 0 p h)
        ∙ ap₂ (λ (b c : Bool). result true b c) small (sym tests ∙ e))

    pub product-stays : any size (λ c. above 1000000000000 (at ws c)) ≡ false → Ok ws ≡ guard (strays size l p us) TooFine (Ok (multiplied size l p us))
    unfolding result
    product-stays e = ap Ok product ∙ sym (ap (λ (a : Bool). result a (any size (λ c. above 2147483647 (at us c))) (any size (λ c. above 1000000000000 (pos (l / p) *ℤ at us c)))) (lt-ltb 0 p h)
        ∙ ap₂ (λ (b c : Bool). result true b c) small (sym tests ∙ e))
