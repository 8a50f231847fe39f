-- A solver for identities of whole numbers: both sides are written as expressions, their difference is made a polynomial, and each of its coefficients is tested to be 0.
use Rattle.std.proofs.Common.{◌≡◌, ℕ, zero, suc, Bool, true, false, ◌&&◌, T, List, [], ◌∷◌, get_or, ℤ, pos, negsuc, ◌+ℤ◌, ◌-ℤ◌, ◌*ℤ◌, neg_ℤ, sym, refl, ap, ◌∙◌, arith}
use lib.IntN.{*ℤ_comm, +ℤ_idl, +ℤ_idr, *ℤ-zero}
use borrow.Author.Differences.{ints}
use Rattle.whole.specs.Tests.{is_zero}
use Rattle.whole.proofs.Integers.{minus-one-*, *-+, +-*, *-assoc, cancel}

-- An expression over numbered variables.
infixl 6 ◌⊕◌ ◌⊖◌
infixl 7 ◌⊗◌
pub data Exp : Type 0 where
  v : ℕ → Exp
  k : ℤ → Exp
  ◌⊕◌ : Exp → Exp → Exp
  ◌⊖◌ : Exp → Exp → Exp
  ◌⊗◌ : Exp → Exp → Exp
  ⊝ : Exp → Exp

-- Its value, where the variables are those of the list.
abbrev pub value : Exp → List ℤ → ℤ
value (v i) ρ = get_or ρ i (pos 0)
value (k c) ρ = c
value (e ⊕ f) ρ = value e ρ +ℤ value f ρ
value (e ⊖ f) ρ = value e ρ -ℤ value f ρ
value (e ⊗ f) ρ = value e ρ *ℤ value f ρ
value (⊝ e) ρ = neg_ℤ (value e ρ)

-- A polynomial: `p ▸ q` is p + x q, for the first variable x. It does not stand in p, whose variables are counted from the second.
infixr 5 ◌▸◌
pub data Poly : Type 0 where
  con : ℤ → Poly
  ◌▸◌ : Poly → Poly → Poly

abbrev pub head : List ℤ → ℤ
head [] = pos 0
head (x ∷ xs) = x

abbrev pub tail : List ℤ → List ℤ
tail [] = []
tail (x ∷ xs) = xs

abbrev pub meaning : Poly → List ℤ → ℤ
meaning (con c) ρ = c
meaning (p ▸ q) ρ = meaning p (tail ρ) +ℤ head ρ *ℤ meaning q ρ

abbrev pub add_con : ℤ → Poly → Poly
add_con a (con b) = con (a +ℤ b)
add_con a (p ▸ q) = add_con a p ▸ q

abbrev pub add : Poly → Poly → Poly
add (con a) r = add_con a r
add (p ▸ q) (con b) = add_con b p ▸ q
add (p ▸ q) (r ▸ s) = add p r ▸ add q s

abbrev pub mul_con : ℤ → Poly → Poly
mul_con a (con b) = con (a *ℤ b)
mul_con a (p ▸ q) = mul_con a p ▸ mul_con a q

-- The product with a factor that is without the first variable; f multiplies by that factor.
abbrev pub low : (Poly → Poly) → Poly → Poly
low f (con b) = f (con b) ▸ con (pos 0)
low f (p ▸ q) = f p ▸ low f q

abbrev pub mul : Poly → Poly → Poly
mul (con a) r = mul_con a r
mul (p ▸ q) r = add (low (mul p) r) (con (pos 0) ▸ mul q r)

abbrev pub var : ℕ → Poly
var zero = con (pos 0) ▸ con (pos 1)
var (suc i) = var i ▸ con (pos 0)

abbrev pub norm : Exp → Poly
norm (v i) = var i
norm (k c) = con c
norm (e ⊕ f) = add (norm e) (norm f)
norm (e ⊖ f) = add (norm e) (mul_con (negsuc 0) (norm f))
norm (e ⊗ f) = mul (norm e) (norm f)
norm (⊝ e) = mul_con (negsuc 0) (norm e)

abbrev pub vanishes : Poly → Bool
vanishes (con c) = is_zero c
vanishes (p ▸ q) = vanishes p && vanishes q

-- ---- soundness
add_con_is : (a : ℤ) (p : Poly) (ρ : List ℤ) → meaning (add_con a p) ρ ≡ a +ℤ meaning p ρ
add_con_is a (con b) ρ = refl
add_con_is a (p ▸ q) ρ = let h = add_con_is a p (tail ρ) in omega (arith, ints)

add_is : (p q : Poly) (ρ : List ℤ) → meaning (add p q) ρ ≡ meaning p ρ +ℤ meaning q ρ
add_is (con a) r ρ = add_con_is a r ρ
add_is (p ▸ q) (con b) ρ = let h = add_con_is b p (tail ρ) in omega (arith, ints)
add_is (p ▸ q) (r ▸ s) ρ =
    let h = add_is p r (tail ρ) in
    let g = ap (λ z. head ρ *ℤ z) (add_is q s ρ) ∙ *-+ (head ρ) (meaning q ρ) (meaning s ρ) in
    omega (arith, ints)

-- x * (a * b) is a * (x * b)
turn : (x a b : ℤ) → x *ℤ (a *ℤ b) ≡ a *ℤ (x *ℤ b)
turn x a b = sym (*-assoc x a b) ∙ ap (λ z. z *ℤ b) (*ℤ_comm x a) ∙ *-assoc a x b

mul_con_is : (a : ℤ) (p : Poly) (ρ : List ℤ) → meaning (mul_con a p) ρ ≡ a *ℤ meaning p ρ
mul_con_is a (con b) ρ = refl
mul_con_is a (p ▸ q) ρ =
    (λ i. mul_con_is a p (tail ρ) i +ℤ head ρ *ℤ mul_con_is a q ρ i) ∙ ap (λ z. a *ℤ meaning p (tail ρ) +ℤ z) (turn (head ρ) a (meaning q ρ)) ∙ sym (*-+ a (meaning p (tail ρ)) (head ρ *ℤ meaning q ρ))

low_is : (f : Poly → Poly) (y : List ℤ → ℤ) → ((r : Poly) (ρ : List ℤ) → meaning (f r) ρ ≡ y ρ *ℤ meaning r ρ) → (r : Poly) (ρ : List ℤ) → meaning (low f r) ρ ≡ y (tail ρ) *ℤ meaning r ρ
low_is f y h (con b) ρ = (λ i. h (con b) (tail ρ) i +ℤ *ℤ-zero (head ρ) i) ∙ +ℤ_idr (y (tail ρ) *ℤ b)
low_is f y h (p ▸ q) ρ =
    (λ i. h p (tail ρ) i +ℤ head ρ *ℤ low_is f y h q ρ i) ∙ ap (λ z. y (tail ρ) *ℤ meaning p (tail ρ) +ℤ z) (turn (head ρ) (y (tail ρ)) (meaning q ρ)) ∙ sym (*-+ (y (tail ρ)) (meaning p (tail ρ)) (head ρ *ℤ meaning q ρ))

mul_is : (p q : Poly) (ρ : List ℤ) → meaning (mul p q) ρ ≡ meaning p ρ *ℤ meaning q ρ
mul_is (con a) r ρ = mul_con_is a r ρ
mul_is (p ▸ q) r ρ =
    add_is (low (mul p) r) (con (pos 0) ▸ mul q r) ρ
    ∙ (λ i. low_is (mul p) (meaning p) (mul_is p) r ρ i +ℤ +ℤ_idl (head ρ *ℤ mul_is q r ρ i) i)
    ∙ ap (λ z. meaning p (tail ρ) *ℤ meaning r ρ +ℤ z) (sym (*-assoc (head ρ) (meaning q ρ) (meaning r ρ)))
    ∙ sym (+-* (meaning p (tail ρ)) (head ρ *ℤ meaning q ρ) (meaning r ρ))

var_is : (i : ℕ) (ρ : List ℤ) → meaning (var i) ρ ≡ get_or ρ i (pos 0)
var_is zero [] = refl
var_is zero (x ∷ ρ) = omega (arith, ints)
var_is (suc i) [] = let h = var_is i [] in omega (arith, ints, none i)
  where
    none : (i : ℕ) → get_or [] i (pos 0) ≡ pos 0
    none i = refl
var_is (suc i) (x ∷ ρ) = let h = var_is i ρ in omega (arith, ints)

norm_is : (e : Exp) (ρ : List ℤ) → meaning (norm e) ρ ≡ value e ρ
norm_is (v i) ρ = var_is i ρ
norm_is (k c) ρ = refl
norm_is (e ⊕ f) ρ = add_is (norm e) (norm f) ρ ∙ (λ i. norm_is e ρ i +ℤ norm_is f ρ i)
norm_is (e ⊖ f) ρ = add_is (norm e) (mul_con (negsuc 0) (norm f)) ρ ∙ (λ i. norm_is e ρ i +ℤ (mul_con_is (negsuc 0) (norm f) ρ ∙ minus-one-* (meaning (norm f) ρ) ∙ ap neg_ℤ (norm_is f ρ)) i)
norm_is (e ⊗ f) ρ = mul_is (norm e) (norm f) ρ ∙ (λ i. norm_is e ρ i *ℤ norm_is f ρ i)
norm_is (⊝ e) ρ = mul_con_is (negsuc 0) (norm e) ρ ∙ minus-one-* (meaning (norm e) ρ) ∙ ap neg_ℤ (norm_is e ρ)

zero_is : (c : ℤ) → T (is_zero c) → c ≡ pos 0
zero_is (pos zero) t = refl
zero_is (pos (suc n)) t = absurd t
zero_is (negsuc n) t = absurd t

both_is : (a b : Bool) → T (a && b) → T a × T b
both_is true b t = (tt, t)
both_is false b t = absurd t

vanishes_is : (p : Poly) (ρ : List ℤ) → T (vanishes p) → meaning p ρ ≡ pos 0
vanishes_is (con c) ρ t = zero_is c t
vanishes_is (p ▸ q) ρ t =
    let s = both_is (vanishes p) (vanishes q) t in
    (λ i. vanishes_is p (tail ρ) s.0 i +ℤ head ρ *ℤ vanishes_is q ρ s.1 i) ∙ +ℤ_idl (head ρ *ℤ pos 0) ∙ *ℤ-zero (head ρ)

-- The two expressions are the same polynomial.
abbrev pub Same : Exp → Exp → Type 0
Same e f = T (vanishes (norm (e ⊖ f)))

-- An identity at the values ρ of the variables; the proof of `Same` is tt.
pub ring : (ρ : List ℤ) (e f : Exp) → Same e f → value e ρ ≡ value f ρ
ring ρ e f t = cancel (value e ρ) (value f ρ) (sym (norm_is (e ⊖ f) ρ) ∙ vanishes_is (norm (e ⊖ f)) ρ t)
