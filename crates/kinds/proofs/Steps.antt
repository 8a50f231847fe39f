-- One coordinate's step, and what follows for whole values.
use Rattle.std.proofs.Common.{◌≡◌, ℕ, zero, suc, ◌+◌, ◌*◌, ◌/◌, ◌%◌, ◌^◌, ◌<◌, ◌≤◌, Bool, true, false, cond, not, ◌||◌, nat_eq, List, [], ◌∷◌, ℤ, pos, negsuc, ◌+ℤ◌, ◌-ℤ◌, ◌*ℤ◌, neg_ℤ, nat_abs, Ok, Err, Result, refl, sym, subst, ap, ◌∙◌, ap₂, true≢false, div-le_self, mul-le-mul, arith, w64, SFits, to_z, of_z}
use lib.IntN.{*ℤ_comm}
use lib.Signed.{mag, quot_z, rem_z}
use borrow.Author.Differences.{ints}
use Rattle.std.specs.Int.{int_wrap}
use Rattle.std.proofs.Math.Nat.{div-mul-le_self}
use Rattle.std.proofs.lemmas.Int.{to_z-of_z, quot-rem, rem_below, wrapping_mul_is, int_wrap_fits, int_wrap-add_same, SFits-int_wrap}
use Rattle.std.proofs.lemmas.Bool.{lt-ltb, ltb-true, eq-eqb, ne_eqb}
use Rattle.records.specs.declared.refusal.Refusal.{Refusal}
use Rattle.records.specs.declared.refusal.Refusal.TheVariants.{DoesNotFit}
use Rattle.whole.proofs.Integers.{minus-one-*, +-*, neg-*}
use Rattle.whole.proofs.Sizes.{nat_abs-*, nat_abs_neg, fits}
use Rattle.kinds.specs.Outcomes.{fits64, misfit, is_unit, fused_at, combined}

pub fits_true : (z : ℤ) → SFits w64 z → fits64 z ≡ true
fits_true z f = lt-ltb _ _ f.sfits

pub true_fits : (z : ℤ) → fits64 z ≡ true → SFits w64 z
true_fits z e = record { sfits = ltb-true (mag z) (2 ^ 63) e }

-- p is the product and z the sum
pub fused_ok : (u k v p z : ℤ) → SFits w64 (k *ℤ v) → p ≡ k *ℤ v → SFits w64 (u +ℤ p) → z ≡ u +ℤ p → Ok z ≡ fused_at u k v
fused_ok u k v p z f e g h =
    let a = fits_true (k *ℤ v) f in
    let b : fits64 (u +ℤ k *ℤ v) ≡ true = fits_true _ (rw e at g) in
    rw (a, b) (ap Ok (rw e at h))

-- both fit: then the bits of the steps are those of the numbers
pub fused_made : (u k v : ℤ) → SFits w64 u → SFits w64 k → SFits w64 v → fits64 (k *ℤ v) ≡ true → fits64 (u +ℤ k *ℤ v) ≡ true
    → Ok (to_z w64 (of_z w64 (to_z w64 (of_z w64 u) +ℤ to_z w64 (of_z w64 (to_z w64 (of_z w64 k) *ℤ to_z w64 (of_z w64 v)))))) ≡ fused_at u k v
fused_made u k v fu fk fv a b =
    fused_ok u k v (k *ℤ v) _ fp refl fs
    (ap (λ (z : ℤ). to_z w64 (of_z w64 z))
    (ap₂ ◌+ℤ◌ (to_z-of_z w64 u fu) (ap (λ (z : ℤ). to_z w64 (of_z w64 z)) (ap₂ ◌*ℤ◌ (to_z-of_z w64 k fk) (to_z-of_z w64 v fv)) ∙ to_z-of_z w64 (k *ℤ v) fp))
    ∙ to_z-of_z w64 (u +ℤ k *ℤ v) fs)
  where
    fp : SFits w64 (k *ℤ v)
    fp = true_fits _ a

    fs : SFits w64 (u +ℤ k *ℤ v)
    fs = true_fits _ b

-- the product fits, and the sum does not
pub fused_beyond : (u k v : ℤ) → fits64 (k *ℤ v) ≡ true → fits64 (u +ℤ k *ℤ v) ≡ false → Err DoesNotFit ≡ fused_at u k v
fused_beyond u k v a b = rw (a, b)

-- both fit, as one answer
pub both_fit : (u k v : ℤ) → true ≡ not (misfit u k v) → (fits64 (k *ℤ v) ≡ true) × (fits64 (u +ℤ k *ℤ v) ≡ true)
both_fit u k v e = by (fits64 (k *ℤ v)) (fits64 (u +ℤ k *ℤ v)) e
  where
    by : (p q : Bool) → true ≡ not (not p || not q) → (p ≡ true) × (q ≡ true)
    by true true h = (refl, refl)
    by true false h = absurd (true≢false h)
    by false q h = absurd (true≢false h)

pub sum_alone : (u k v : ℤ) → fits64 (k *ℤ v) ≡ true → fits64 (u +ℤ k *ℤ v) ≡ not (misfit u k v)
sum_alone u k v a = by (fits64 (k *ℤ v)) (fits64 (u +ℤ k *ℤ v)) a
  where
    by : (p q : Bool) → p ≡ true → q ≡ not (not p || not q)
    by true true h = refl
    by true false h = refl
    by false q h = absurd (true≢false (sym h))

-- ---- factors 0 and -1
pub unit_is : (k : ℤ) → is_unit k ≡ true → (k ≡ pos 0 → ⊥) → k ≡ negsuc 0
unit_is (pos zero) e d = absurd (d refl)
unit_is (pos (suc n)) e d = absurd (true≢false (sym e))
unit_is (negsuc zero) e d = refl
unit_is (negsuc (suc n)) e d = absurd (true≢false (sym e))

pub neg_fits : (v : ℤ) → SFits w64 v → (of_z w64 v ≡ 2 ^ 63 → ⊥) → SFits w64 (neg_ℤ v)
neg_fits (pos zero) f d = record { sfits = omega arith }
neg_fits (pos (suc n)) f d = record { sfits = let h = f.sfits in omega arith }
neg_fits (negsuc n) f d = record { sfits = let h = f.sfits in omega arith }

-- the sum with the negative number stands for the step
pub minus-one-sum : (u k v : ℤ) → k ≡ negsuc 0 → SFits w64 (neg_ℤ v) → fits64 (u +ℤ neg_ℤ v) ≡ not (misfit u k v)
minus-one-sum u k v e f =
    let m : neg_ℤ v ≡ k *ℤ v = sym (minus-one-* v) ∙ ap (λ z. z *ℤ v) (sym e) in
    ap (λ z. fits64 (u +ℤ z)) m ∙ sum_alone u k v (sym (ap fits64 m) ∙ fits_true _ f)

-- ---- the test of a product by division
module _ (k : ℤ) (other : is_unit k ≡ false) where
  above_0 : 0 < nat_abs k
  above_0 = by k other
    where
      by : (k : ℤ) → is_unit k ≡ false → 0 < nat_abs k
      by (pos zero) e = absurd (true≢false e)
      by (pos (suc n)) e = omega arith
      by (negsuc n) e = omega arith

  -- the quotient fits, since k is not -1
  quotient-fits : (p : ℤ) → SFits w64 p → SFits w64 (quot_z p k)
  quotient-fits p f = by k other p f
    where
      low : (n : ℕ) → n ≤ 2 ^ 63 → SFits w64 (neg_ℤ (pos n))
      low zero h = record { sfits = omega arith }
      low (suc n) h = record { sfits = omega arith }

      twice : (q b : ℕ) → q + q ≤ q * suc (suc b)
      twice q b =
          let h : q ≤ q = omega arith in
          let k : 2 ≤ suc (suc b) = omega arith in
          let m : q * 2 ≤ q * suc (suc b) = mul-le-mul h k in
          omega arith

      by : (k : ℤ) → is_unit k ≡ false → (p : ℤ) → SFits w64 p → SFits w64 (quot_z p k)
      by (pos b) e (pos a) f = record { sfits = let h = f.sfits in let l = div-le_self a b in omega arith }
      by (pos b) e (negsuc a) f = low (suc a / b) (let h = f.sfits in let l = div-le_self (suc a) b in omega arith)
      by (negsuc b) e (pos a) f = low (a / suc b) (let h = f.sfits in let l = div-le_self a (suc b) in omega arith)
      by (negsuc zero) e (negsuc a) f = absurd (true≢false e)
      by (negsuc (suc b)) e (negsuc a) f = record { sfits = let h = f.sfits in let l = div-mul-le_self (suc a) (suc (suc b)) in let m = twice (suc a / suc (suc b)) b in omega arith }

  module _ (v : ℤ) where
    -- a product that fits is divided exactly
    divided_back : quot_z (k *ℤ v) k ≡ v
    divided_back =
        let e = quot-rem (k *ℤ v) k in
        let r = rem_below (k *ℤ v) k above_0 in
        let d : (v -ℤ quot_z (k *ℤ v) k) *ℤ k ≡ rem_z (k *ℤ v) k = difference v (quot_z (k *ℤ v) k) (rem_z (k *ℤ v) k) e in
        let l : nat_abs (v -ℤ quot_z (k *ℤ v) k) * nat_abs k < 1 * nat_abs k = subst (λ n. n < 1 * nat_abs k) (nat_abs-* (v -ℤ quot_z (k *ℤ v) k) k) (subst (λ z. nat_abs z < 1 * nat_abs k) (sym d) (omega arith)) in
        let z : nat_abs (v -ℤ quot_z (k *ℤ v) k) < 1 = few (nat_abs (v -ℤ quot_z (k *ℤ v) k)) (nat_abs k) l in
        same v (quot_z (k *ℤ v) k) z
      where
        rest : (z y r : ℤ) → y +ℤ r ≡ z → z +ℤ neg_ℤ y ≡ r
        rest z y r e = omega (arith, ints)

        difference : (v q r : ℤ) → q *ℤ k +ℤ r ≡ k *ℤ v → (v -ℤ q) *ℤ k ≡ r
        difference v q r e = +-* v (neg_ℤ q) k ∙ ap₂ ◌+ℤ◌ (*ℤ_comm v k) (neg-* q k) ∙ rest (k *ℤ v) (q *ℤ k) r e

        few : (n m : ℕ) → n * m < 1 * m → n < 1
        few zero m h = omega arith
        few (suc n) m h = absurd (omega arith)

        same : (v q : ℤ) → nat_abs (v -ℤ q) < 1 → q ≡ v
        same v q h = omega (arith, ints)

    -- what 64 bits keep of the product, divided by k, is v: then they keep all of it
    kept_fits : (p : ℤ) → SFits w64 k → SFits w64 p → p ≡ int_wrap w64 (k *ℤ v) → quot_z p k ≡ v → SFits w64 (k *ℤ v)
    kept_fits p fk fp e q =
        let r : ℤ = rem_z p k in
        let l = rem_below p k above_0 in
        let s : k *ℤ v +ℤ r ≡ p = ap (λ z. z +ℤ r) (*ℤ_comm k v ∙ ap (λ z. z *ℤ k) (sym q)) ∙ quot-rem p k in
        let fr : SFits w64 (neg_ℤ r) = fits (neg_ℤ r) (let n = nat_abs_neg r in let h = size k fk in omega arith) in
        let w = int_wrap-add_same w64 (k *ℤ v) p (neg_ℤ p) (sym e ∙ sym (int_wrap_fits w64 p fp)) in
        let z : neg_ℤ r ≡ pos 0 = sym (int_wrap_fits w64 (neg_ℤ r) fr) ∙ ap (int_wrap w64) (rest (k *ℤ v) r p s) ∙ w ∙ ap (int_wrap w64) (none p) ∙ int_wrap_fits w64 (pos 0) (record { sfits = omega arith }) in
        subst (SFits w64) (whole (k *ℤ v) r p s z) fp
      where
        size : (k : ℤ) → SFits w64 k → nat_abs k ≤ 2 ^ 63
        size (pos n) f = let h = f.sfits in omega arith
        size (negsuc n) f = let h = f.sfits in omega arith

        rest : (z r p : ℤ) → z +ℤ r ≡ p → neg_ℤ r ≡ z +ℤ neg_ℤ p
        rest z r p e = omega (arith, ints)

        none : (p : ℤ) → p +ℤ neg_ℤ p ≡ pos 0
        none p = omega (arith, ints)

        whole : (z r p : ℤ) → z +ℤ r ≡ p → neg_ℤ r ≡ pos 0 → p ≡ z
        whole z r p e h = omega (arith, ints)

    pub product_test : SFits w64 k → SFits w64 v → nat_eq (of_z w64 (quot_z (to_z w64 (of_z w64 k * of_z w64 v % 2 ^ 64)) k)) (of_z w64 v) ≡ fits64 (k *ℤ v)
    product_test fk fv = by (fits64 (k *ℤ v)) refl
      where
        p : ℤ
        p = to_z w64 (of_z w64 k * of_z w64 v % 2 ^ 64)

        is : p ≡ int_wrap w64 (k *ℤ v)
        is = wrapping_mul_is w64 k v fk fv

        fp : SFits w64 p
        fp = subst (SFits w64) (sym is) (SFits-int_wrap w64 (k *ℤ v))

        by : (b : Bool) → fits64 (k *ℤ v) ≡ b → nat_eq (of_z w64 (quot_z p k)) (of_z w64 v) ≡ b
        by true h =
            let e : quot_z p k ≡ v = ap (λ z. quot_z z k) (is ∙ int_wrap_fits w64 (k *ℤ v) (true_fits _ h)) ∙ divided_back in
            eq-eqb (of_z w64 (quot_z p k)) (of_z w64 v) (ap (of_z w64) e)
        by false h = ne_eqb (of_z w64 (quot_z p k)) (of_z w64 v) (λ e.
            true≢false (sym (fits_true _ (kept_fits p fk fp is (sym (to_z-of_z w64 (quot_z p k) (quotient-fits p fp)) ∙ ap (to_z w64) e ∙ to_z-of_z w64 v fv))) ∙ h))

-- one coordinate's outcome, as that of a value with one coordinate
abbrev pub alone : Result ℤ Refusal → Result (List ℤ) Refusal
alone (Err e) = Err e
alone (Ok x) = Ok (x ∷ [])

-- two coordinates' outcomes, as that of a value with both
abbrev pub both : Result ℤ Refusal → Result ℤ Refusal → Result (List ℤ) Refusal
both (Err e) s = Err e
both (Ok x) (Err e) = Err e
both (Ok x) (Ok y) = Ok (x ∷ y ∷ [])

alone_cond : (p : Bool) (x : ℤ) → alone (cond p (Err DoesNotFit) (Ok x)) ≡ cond (not (false || p)) (Ok (x ∷ [])) (Err DoesNotFit)
alone_cond true x = refl
alone_cond false x = refl

pub combined-one : (a k x : ℤ) → alone (fused_at a k x) ≡ combined (a ∷ []) k (x ∷ [])
combined-one a k x = alone_cond (misfit a k x) (a +ℤ k *ℤ x)

both_cond : (p q : Bool) (x y : ℤ) → both (cond p (Err DoesNotFit) (Ok x)) (cond q (Err DoesNotFit) (Ok y)) ≡ cond (not ((false || p) || q)) (Ok (x ∷ y ∷ [])) (Err DoesNotFit)
both_cond true true x y = refl
both_cond true false x y = refl
both_cond false true x y = refl
both_cond false false x y = refl

pub combined_two : (a b k x y : ℤ) → both (fused_at a k x) (fused_at b k y) ≡ combined (a ∷ b ∷ []) k (x ∷ y ∷ [])
combined_two a b k x y = both_cond (misfit a k x) (misfit b k y) (a +ℤ k *ℤ x) (b +ℤ k *ℤ y)
