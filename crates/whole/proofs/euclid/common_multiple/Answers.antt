use Rattle.std.proofs.Common.{◌≡◌, ℕ, ◌*◌, ◌/◌, ◌<◌, ◌≤◌, Some, sym, ap, ◌∙◌, subst, mul_comm, div-lt_iff_lt-mul, le-div_iff_mul-le, arith, rules}
use Rattle.std.proofs.lemmas.Bool.{cond-true, cond-false, le-leb, lt-leb}
use Rattle.whole.specs.Gcd.{lcm}
use Rattle.whole.proofs.euclid.common_multiple.Goals as goal

-- the product is at most `most` exactly when b is at most the quotient
within : (x b most : ℕ) → 0 < x → b ≤ most / x → x * b ≤ most
within x b most h l = subst (λ (z : ℕ). z ≤ most) (mul_comm b x) ((le-div_iff_mul-le h).0 l)

beyond : (x b most : ℕ) → 0 < x → most / x < b → most < x * b
beyond x b most h l = subst (λ (z : ℕ). most < z) (mul_comm b x) ((div-lt_iff_lt-mul h).0 l)

pub returns-then-b-most : goal.returns-then-b-most
returns-then-b-most c =
    let x : ℕ = c.args.a / c.common_divisor-g.result in
    let h : 0 < x = omega arith in
    let l : c.args.most / x < c.args.b = omega arith in
    let over : c.args.most < lcm c.args.a c.args.b = subst (λ (g : ℕ). c.args.most < c.args.a / g * c.args.b) c.common_divisor-g.ensures (beyond x c.args.b c.args.most h l) in
    sym (cond-false _ _ _ (lt-leb _ _ over))

pub overflow_mul-result : goal.overflow_mul-result
overflow_mul-result c =
    let x : ℕ = c.args.a / c.common_divisor-g.result in
    let h : 0 < x = omega arith in
    let l : c.args.b ≤ c.args.most / x = omega arith in
    let w : x * c.args.b ≤ c.args.most = within x c.args.b c.args.most h l in
    search rules

pub returns : goal.returns
returns c =
    let x : ℕ = c.args.a / c.common_divisor-g.result in
    let h : 0 < x = omega arith in
    let l : c.args.b ≤ c.args.most / x = omega arith in
    let same : x * c.args.b ≡ lcm c.args.a c.args.b = ap (λ (g : ℕ). c.args.a / g * c.args.b) c.common_divisor-g.ensures in
    let w : lcm c.args.a c.args.b ≤ c.args.most = subst (λ (z : ℕ). z ≤ c.args.most) same (within x c.args.b c.args.most h l) in
    ap Some same ∙ sym (cond-true _ _ _ (le-leb _ _ w))
