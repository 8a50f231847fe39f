-- Laws of the sum, the product and the order of whole numbers.
use Rattle.std.proofs.Common.{◌≡◌, zero, suc, ◌*◌, ◌≢◌, ◌⊎◌, ℤ, pos, negsuc, ◌+ℤ◌, ◌-ℤ◌, ◌*ℤ◌, neg_ℤ, ◌≤ℤ◌, ◌<ℤ◌, sym, refl, ap, ◌∙◌, subst, inl, inr, ⊎_elim, arith}
use lib.IntN.{*ℤ_comm}
use borrow.Author.Differences.{ints, up, down, sum_is_lem, neg_is, product_is}

pub *-+ : (a b c : ℤ) → a *ℤ (b +ℤ c) ≡ a *ℤ b +ℤ a *ℤ c
*-+ a b c = let s = sum_is_lem b c in omega (arith, ints, ap (λ x. up a * x) s, ap (λ x. down a * x) s)

pub +-* : (a b c : ℤ) → (a +ℤ b) *ℤ c ≡ a *ℤ c +ℤ b *ℤ c
+-* a b c = *ℤ_comm (a +ℤ b) c ∙ *-+ c a b ∙ (λ i. *ℤ_comm c a i +ℤ *ℤ_comm c b i)

pub *-assoc : (a b c : ℤ) → (a *ℤ b) *ℤ c ≡ a *ℤ (b *ℤ c)
*-assoc a b c =
    let l = product_is a b in
    let r = product_is b c in
    omega (
      arith,
      ints,
      ap (λ x. x * up c) l.0,
      ap (λ x. x * down c) l.0,
      ap (λ x. x * up c) l.1,
      ap (λ x. x * down c) l.1,
      ap (λ x. up a * x) r.0,
      ap (λ x. down a * x) r.0,
      ap (λ x. up a * x) r.1,
      ap (λ x. down a * x) r.1,
    )

pub neg-* : (a b : ℤ) → neg_ℤ a *ℤ b ≡ neg_ℤ (a *ℤ b)
neg-* a b = let n = neg_is a in omega (arith, ints, ap (λ x. x * up b) n.0, ap (λ x. x * down b) n.0, ap (λ x. x * up b) n.1, ap (λ x. x * down b) n.1)

pub minus-one-* : (a : ℤ) → negsuc 0 *ℤ a ≡ neg_ℤ a
minus-one-* a = omega (arith, ints)

pub one-* : (a : ℤ) → pos 1 *ℤ a ≡ a
one-* a = omega (arith, ints)

pub +-swap : (a b c d : ℤ) → (a +ℤ b) +ℤ (c +ℤ d) ≡ (a +ℤ c) +ℤ (b +ℤ d)
+-swap a b c d = omega (arith, ints)

-- a difference that is 0
pub cancel : (a b : ℤ) → a -ℤ b ≡ pos 0 → a ≡ b
cancel a b e = omega (arith, ints)

-- a product that is 0 has a factor that is 0
pub *-zero : (a b : ℤ) → a *ℤ b ≡ pos 0 → (a ≡ pos 0) ⊎ (b ≡ pos 0)
*-zero (pos zero) b e = inl refl
*-zero (pos (suc m)) (pos zero) e = inr refl
*-zero (pos (suc m)) (pos (suc n)) e = absurd (omega (arith, ints))
*-zero (pos (suc m)) (negsuc n) e = absurd (omega (arith, ints))
*-zero (negsuc m) (pos zero) e = inr refl
*-zero (negsuc m) (pos (suc n)) e = absurd (omega (arith, ints))
*-zero (negsuc m) (negsuc n) e = absurd (omega (arith, ints))

-- ---- the order
pub <→≤ : (a : ℤ) → pos 0 <ℤ a → pos 0 ≤ℤ a
<→≤ a h = omega (arith, ints)

-- above 0 and 0 at once
pub not_both : (a : ℤ) → pos 0 <ℤ a → a ≡ pos 0 → ⊥
not_both a h e = omega (arith, ints)

pub above-0 : (a : ℤ) → a ≢ pos 0 → pos 0 ≤ℤ a → pos 0 <ℤ a
above-0 (pos zero) d h = absurd (d refl)
above-0 (pos (suc n)) d h = omega (arith, ints)
above-0 (negsuc n) d h = absurd (omega (arith, ints))

pub +-≥0 : (a b : ℤ) → pos 0 ≤ℤ a → pos 0 ≤ℤ b → pos 0 ≤ℤ (a +ℤ b)
+-≥0 a b h k = omega (arith, ints)

-- two numbers not below 0 whose sum is 0 are 0
pub +-zero : (a b : ℤ) → pos 0 ≤ℤ a → pos 0 ≤ℤ b → a +ℤ b ≡ pos 0 → (a ≡ pos 0) × (b ≡ pos 0)
+-zero a b h k e = (omega (arith, ints), omega (arith, ints))

pub square-≥0 : (a : ℤ) → pos 0 ≤ℤ (a *ℤ a)
square-≥0 (pos n) = omega (arith, ints)
square-≥0 (negsuc n) = omega (arith, ints)

pub *-≥0 : (a b : ℤ) → pos 0 ≤ℤ a → pos 0 ≤ℤ b → pos 0 ≤ℤ (a *ℤ b)
*-≥0 (pos m) (pos n) h k = omega (arith, ints)
*-≥0 (pos m) (negsuc n) h k = absurd (omega (arith, ints))
*-≥0 (negsuc m) b h k = absurd (omega (arith, ints))

pub *->0 : (a b : ℤ) → pos 0 <ℤ a → pos 0 <ℤ b → pos 0 <ℤ (a *ℤ b)
*->0 (pos (suc m)) (pos (suc n)) h k = omega (arith, ints)
*->0 (pos (suc m)) (pos zero) h k = absurd (omega (arith, ints))
*->0 (pos (suc m)) (negsuc n) h k = absurd (omega (arith, ints))
*->0 (pos zero) b h k = absurd (omega (arith, ints))
*->0 (negsuc m) b h k = absurd (omega (arith, ints))

-- ---- a factor above 0 is taken off
pub ≥0-by : (a g : ℤ) → pos 0 <ℤ g → pos 0 ≤ℤ (a *ℤ g) → pos 0 ≤ℤ a
≥0-by (pos n) g h k = omega (arith, ints)
≥0-by (negsuc m) (pos (suc n)) h k = absurd (omega (arith, ints))
≥0-by (negsuc m) (pos zero) h k = absurd (omega (arith, ints))
≥0-by (negsuc m) (negsuc n) h k = absurd (omega (arith, ints))

pub >0-by : (g a : ℤ) → pos 0 <ℤ g → pos 0 <ℤ (g *ℤ a) → pos 0 <ℤ a
>0-by (pos zero) a h k = absurd (omega (arith, ints))
>0-by (pos (suc g)) (pos zero) h k = absurd (omega (arith, ints))
>0-by (pos (suc g)) (pos (suc a)) h k = omega (arith, ints)
>0-by (pos (suc g)) (negsuc a) h k = absurd (omega (arith, ints))
>0-by (negsuc g) a h k = absurd (omega (arith, ints))

pub cancel-0 : (g a : ℤ) → pos 0 <ℤ g → g *ℤ a ≡ pos 0 → a ≡ pos 0
cancel-0 g a h e = ⊎_elim (λ z. absurd (not_both g h z)) (λ z. z) (*-zero g a e)

-- g (a - b) is g a - g b
pub *-- : (g a b : ℤ) → g *ℤ (a -ℤ b) ≡ g *ℤ a -ℤ g *ℤ b
*-- g a b = *-+ g a (neg_ℤ b) ∙ ap (λ z. g *ℤ a +ℤ z) (*ℤ_comm g (neg_ℤ b) ∙ neg-* b g ∙ ap neg_ℤ (*ℤ_comm b g))

pub cancel-* : (g a b : ℤ) → pos 0 <ℤ g → g *ℤ a ≡ g *ℤ b → a ≡ b
cancel-* g a b h e = cancel a b (cancel-0 g (a -ℤ b) h (*-- g a b ∙ ends))
  where
    ends : g *ℤ a -ℤ g *ℤ b ≡ pos 0
    ends = omega (arith, ints)

pub cancel-< : (g a b : ℤ) → pos 0 <ℤ g → (g *ℤ a) <ℤ (g *ℤ b) → a <ℤ b
cancel-< g a b h l = back (>0-by g (b -ℤ a) h (subst (λ z. pos 0 <ℤ z) (sym (*-- g b a)) gap))
  where
    gap : pos 0 <ℤ (g *ℤ b -ℤ g *ℤ a)
    gap = omega (arith, ints)

    back : pos 0 <ℤ (b -ℤ a) → a <ℤ b
    back k = omega (arith, ints)
