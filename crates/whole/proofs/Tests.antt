-- What passed and failed tests say.
use Rattle.std.proofs.Common.{◌≡◌, ℕ, zero, suc, ◌<◌, ◌≤◌, Bool, true, false, ◌||◌, ◌≢◌, ℤ, pos, negsuc, ◌-ℤ◌, nat_abs, sym, refl, ap, ◌∙◌, ⊎_elim, true≢false, not-suc-le-zero, arith}
use mathlib.Core.Bool.{false≢true}
use native.Mathlib.Decide.{ℕ_discrete}
use Rattle.std.proofs.lemmas.Bool.{or_parts, or_cases, not-true, not-false, ltb-false, le-ltb}
use Rattle.whole.specs.Tests.{any, above, is_zero, nonzero, differ}
use Rattle.whole.proofs.Integers.{cancel}

-- ---- the indices below a bound
-- no index passes: each fails
pub any_false : (n : ℕ) (p : ℕ → Bool) → any n p ≡ false → (i : ℕ) → i < n → p i ≡ false
any_false zero p e i l = absurd (not-suc-le-zero l)
any_false (suc n) p e i l = let h = or_parts (any n p) (p n) e in by (any_false n p h.0) h.1 (ℕ_discrete i n)
  where
    by : ((j : ℕ) → j < n → p j ≡ false) → p n ≡ false → Dec (i ≡ n) → p i ≡ false
    by ih last (yes q) = ap p q ∙ last
    by ih last (no d) = ih i (omega arith)

pub none_any : (n : ℕ) (p : ℕ → Bool) → ((i : ℕ) → i < n → p i ≡ false) → any n p ≡ false
none_any zero p h = refl
none_any (suc n) p h = λ t. none_any n p (λ i l. h i (omega arith)) t || h n (omega arith) t

-- some index passes
pub any_true : (n : ℕ) (p : ℕ → Bool) → any n p ≡ true → (i : ℕ) × (i < n) × (p i ≡ true)
any_true zero p e = absurd (false≢true e)
any_true (suc n) p e = ⊎_elim (λ h. let r = any_true n p h in (r.0, up r.1, r.2)) (λ h. (n, last, h)) (or_cases (any n p) (p n) e)
  where
    up : {i : ℕ} → i < n → i < suc n
    up h = omega arith

    last : n < suc n
    last = omega arith

pub some-any : (n : ℕ) (p : ℕ → Bool) (i : ℕ) → i < n → p i ≡ true → any n p ≡ true
some-any n p i l e = by (any n p) refl
  where
    by : (b : Bool) → any n p ≡ b → b ≡ true
    by true h = refl
    by false h = sym (any_false n p h i l) ∙ e

-- equal at each index: equal
pub any_ext : (n : ℕ) (p q : ℕ → Bool) → ((i : ℕ) → i < n → p i ≡ q i) → any n p ≡ any n q
any_ext zero p q h = refl
any_ext (suc n) p q h = λ t. any_ext n p q (λ i l. h i (omega arith)) t || h n (omega arith) t

-- ---- sizes
pub above_false : (limit : ℕ) (x : ℤ) → above limit x ≡ false → nat_abs x ≤ limit
above_false limit x e = ltb-false limit (nat_abs x) e

pub within-above : (limit : ℕ) (x : ℤ) → nat_abs x ≤ limit → above limit x ≡ false
within-above limit x h = le-ltb limit (nat_abs x) h

-- ---- zero and not
pub is_zero_true : (a : ℤ) → is_zero a ≡ true → a ≡ pos 0
is_zero_true (pos zero) e = refl
is_zero_true (pos (suc n)) e = absurd (false≢true e)
is_zero_true (negsuc n) e = absurd (false≢true e)

pub is_zero_false : (a : ℤ) → is_zero a ≡ false → a ≢ pos 0
is_zero_false a e q = true≢false (ap is_zero (sym q) ∙ e)

pub nonzero_false : (a : ℤ) → nonzero a ≡ false → a ≡ pos 0
nonzero_false a e = is_zero_true a (not-false (is_zero a) e)

pub nonzero_true : (a : ℤ) → nonzero a ≡ true → a ≢ pos 0
nonzero_true a e = is_zero_false a (not-true (is_zero a) e)

pub is_nonzero : (a : ℤ) → a ≢ pos 0 → nonzero a ≡ true
is_nonzero (pos zero) d = absurd (d refl)
is_nonzero (pos (suc n)) d = refl
is_nonzero (negsuc n) d = refl

pub differ_false : (a b : ℤ) → differ a b ≡ false → a ≡ b
differ_false a b e = cancel a b (nonzero_false (a -ℤ b) e)
