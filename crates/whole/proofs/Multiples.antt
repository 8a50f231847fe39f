-- The least common multiple.
use Rattle.std.proofs.Common.{◌≡◌, ℕ, zero, suc, ◌*◌, ◌/◌, ◌<◌, [], ◌∷◌, ℤ, pos, ◌*ℤ◌, nat_abs, sym, ap, ◌∙◌, subst, inl, mul_assoc, mul_comm, mul-pos, mul_right_comm, arith}
use Prim.Native.Nat.{◌∣◌}
use native.Mathlib.Nat.{dvd_trans, dvd-zero, dvd-mul_left, dvd-mul_right, mul-dvd-mul_left, mul-dvd-mul_right, dvd_of_mul-dvd-mul_left, dvd_of_mul-dvd-mul_right, le_of_dvd, pos_of_dvd_of_pos, div-mul_cancel, mul-div_cancel'}
use lib.Signed.{quot_z}
use Rattle.whole.specs.Gcd.{gcd, lcm}
use Rattle.whole.specs.Laws.{LeastMultiple}
use Rattle.whole.proofs.Ring.{v, ◌⊗◌, ring}
use Rattle.whole.proofs.Divisors.{gcd-left, gcd-right, gcd-greatest, gcd-above, exact}

-- the multiple times the divisor is the product
pub lcm-gcd : (a b : ℕ) → lcm a b * gcd a b ≡ a * b
lcm-gcd a b = mul_right_comm (a / gcd a b) b (gcd a b) ∙ ap (λ (x : ℕ). x * b) (div-mul_cancel (gcd a b) (gcd-left a b))

pub lcm-right : (a b : ℕ) → b ∣ lcm a b
lcm-right a b = dvd-mul_left b (a / gcd a b)

pub lcm-left : (a b : ℕ) → a ∣ lcm a b
lcm-left a b = subst (λ (x : ℕ). a ∣ x) same (dvd-mul_right a (b / gcd a b))
  where
    same : a * (b / gcd a b) ≡ lcm a b
    same =
        ap (λ (x : ℕ). x * (b / gcd a b)) (sym (div-mul_cancel (gcd a b) (gcd-left a b))) ∙ mul_assoc (a / gcd a b) (gcd a b) (b / gcd a b)
        ∙ ap (λ (x : ℕ). a / gcd a b * x) (mul-div_cancel' (gcd a b) (gcd-right a b))

pub lcm-above : (a b : ℕ) → 0 < a → 0 < b → 0 < lcm a b
lcm-above a b h k = by (lcm a b) (lcm-gcd a b) (mul-pos h k)
  where
    by : (x : ℕ) → x * gcd a b ≡ a * b → 0 < a * b → 0 < x
    by zero e p = absurd (omega arith)
    by (suc x) e p = omega arith

-- a common divisor of k a and k b divides k times that of a and b
gcd_scale : (k a b : ℕ) → 0 < k → gcd (k * a) (k * b) ∣ k * gcd a b
gcd_scale k a b h = subst (λ (x : ℕ). x ∣ k * gcd a b) parts (mul-dvd-mul_left e k (gcd-greatest a b e (less a (gcd-left (k * a) (k * b))) (less b (gcd-right (k * a) (k * b)))))
  where
    d : ℕ
    d = gcd (k * a) (k * b)

    e : ℕ
    e = d / k

    parts : k * e ≡ d
    parts = mul-div_cancel' k (gcd-greatest (k * a) (k * b) k (dvd-mul_right k a) (dvd-mul_right k b))

    less : (x : ℕ) → d ∣ k * x → e ∣ x
    less x p = dvd_of_mul-dvd-mul_left e h (subst (λ (y : ℕ). y ∣ k * x) (sym parts) p)

pub lcm-least : (a b k : ℕ) → a ∣ k → b ∣ k → lcm a b ∣ k
lcm-least a b zero p q = dvd-zero (lcm a b)
lcm-least a b (suc k) p q = dvd_of_mul-dvd-mul_right (lcm a b) above (subst (λ (x : ℕ). x ∣ suc k * gcd a b) (sym (lcm-gcd a b)) product)
  where
    some : 0 < suc k
    some = omega arith

    above : 0 < gcd a b
    above = gcd-above a b (inl (pos_of_dvd_of_pos p some))

    product : a * b ∣ suc k * gcd a b
    product = dvd_trans (a * b)
        (gcd-greatest (suc k * a) (suc k * b) (a * b)
        (subst (λ (x : ℕ). a * b ∣ x) (mul_comm a (suc k)) (mul-dvd-mul_left b a q))
        (mul-dvd-mul_right a p b))
        (gcd_scale (suc k) a b some)

pub lcm_is : (a b : ℕ) → LeastMultiple a b (lcm a b)
lcm_is a b = record {
  left = lcm-left a b;
  right = lcm-right a b;
  divides = lcm-least a b;
  above = lcm-above a b;
  least = λ k h p q. le_of_dvd h (lcm-least a b k p q);
}

-- Dividing p and g by their divisor h gives p' and g'. Where p' divides l, the multiplier (l ÷ p') × g' solves p × x = l × g.
pub multiplier : (p h l : ℕ) (g : ℤ) → h ∣ p → h ∣ nat_abs g → (p / h) ∣ l → pos p *ℤ (pos (l / (p / h)) *ℤ quot_z g (pos h)) ≡ pos l *ℤ g
multiplier p h l g hp hg pl =
    ap (λ (x : ℕ). pos x *ℤ (pos (l / (p / h)) *ℤ quot_z g (pos h))) (sym (mul-div_cancel' h hp))
    ∙ ring (pos h ∷ pos (p / h) ∷ pos (l / (p / h)) ∷ quot_z g (pos h) ∷ []) (v 0 ⊗ v 1 ⊗ (v 2 ⊗ v 3)) (v 1 ⊗ v 2 ⊗ (v 0 ⊗ v 3)) tt
    ∙ (λ t. pos (mul-div_cancel' (p / h) pl t) *ℤ exact h g hg t)
