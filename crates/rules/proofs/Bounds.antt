-- The bounds on the numbers that the calls work out.
use Rattle.std.proofs.Common.{◌≡◌, ℕ, zero, suc, ◌+◌, ◌*◌, ◌/◌, ◌<◌, ◌≤◌, Bool, true, false, not, ◌&&◌, ◌⊎◌, List, ℤ, pos, ◌+ℤ◌, ◌-ℤ◌, ◌*ℤ◌, nat_abs, sym, refl, ap, ◌∙◌, subst, inl, inr, true≢false, le_trans, mul-le-mul, div-le_self, arith}
use lib.IntN.{zero-*ℤ}
use Rattle.std.proofs.lemmas.Bool.{and_cases}
use Rattle.whole.specs.Lists.{at, coord}
use Rattle.whole.specs.Sums.{sum_below}
use Rattle.whole.specs.Tests.{any, tally, above}
use Rattle.whole.specs.Gcd.{gcd}
use Rattle.whole.proofs.Sizes.{nat_abs-+, nat_abs--, product-≤, sum-≤}
use Rattle.whole.proofs.Tests.{any_false, above_false}
use Rattle.linear.specs.Elimination.{entry}
use Rattle.linear.proofs.Limits.{entry-≤}
use Rattle.records.specs.declared.role.Role.{Role}
use Rattle.records.specs.declared.role.Role.TheVariants.{Held, Pulled, Loose}
use Rattle.rules.specs.Gripping.{role, is_held, is_loose, share, coef}
use Rattle.rules.specs.Pulling.{const, if_held, if_moving, numerator}
use Rattle.rules.specs.Bounds.{SharesWithin, GramWithin, HoldingWithin, ResidualWithin, CarriedWithin, MultipleWithin, MultiplierWithin, DenominatorWithin, NumeratorWithin, RoomForAll}
use Rattle.rules.proofs.Roles.{share-≤, no_share, good-weights, few_loose}
use Rattle.rules.proofs.Fit.{fit_values}

-- ---- sums with terms at some indices alone
pub sum-tally : (n : ℕ) (p : ℕ → Bool) (f : ℕ → ℤ) (M : ℕ) → ((s : ℕ) → s < n → p s ≡ false → f s ≡ pos 0) → ((s : ℕ) → s < n → nat_abs (f s) ≤ M) → nat_abs (sum_below n f) ≤ tally n p * M
unfolding sum_below
sum-tally zero p f M z h = omega arith
sum-tally (suc n) p f M z h = by (p n) refl (sum-tally n p f M (λ s l. z s (omega arith)) (λ s l. h s (omega arith)))
  where
    by : (b : Bool) → p n ≡ b → nat_abs (sum_below n f) ≤ tally n p * M → nat_abs (sum_below n f +ℤ f n) ≤ (elim b as (λ x. ℕ) [ true ↦ suc (tally n p) | false ↦ tally n p ]) * M
    by true e ih = let b = h n (omega arith) in omega (arith, nat_abs-+ (sum_below n f) (f n))
    by false e ih = let b : nat_abs (f n) ≡ 0 = ap nat_abs (z n (omega arith) e) in omega (arith, nat_abs-+ (sum_below n f) (f n))

pub tally_up : (k n : ℕ) (p : ℕ → Bool) → k ≤ n → tally k p ≤ tally n p
tally_up k zero p l = subst (λ (x : ℕ). tally x p ≤ 0) (sym none) (omega arith)
  where
    none : k ≡ 0
    none = omega arith
tally_up k (suc n) p l = by (native.Mathlib.Decide.dec_lt n k) (λ b. tally_up k n p b)
  where
    more : (b : Bool) → tally n p ≤ (elim b as (λ x. ℕ) [ true ↦ suc (tally n p) | false ↦ tally n p ])
    more true = omega arith
    more false = omega arith

    by : Dec (n < k) → (k ≤ n → tally k p ≤ tally n p) → tally k p ≤ tally (suc n) p
    by (yes b) ih = subst (λ (x : ℕ). tally x p ≤ tally (suc n) p) (sym last) (omega arith)
      where
        last : k ≡ suc n
        last = omega arith
    by (no b) ih = le_trans (ih (omega arith)) (more (p n))

-- an index passes a test or its opposite
pub tally_both : (n : ℕ) (p : ℕ → Bool) → tally n p + tally n (λ s. not (p s)) ≡ n
tally_both zero p = refl
tally_both (suc n) p = by (p n) (tally_both n p)
  where
    by : (b : Bool) → tally n p + tally n (λ s. not (p s)) ≡ n
        → (elim b as (λ x. ℕ) [ true ↦ suc (tally n p) | false ↦ tally n p ]) + (elim (not b) as (λ x. ℕ) [ true ↦ suc (tally n (λ s. not (p s))) | false ↦ tally n (λ s. not (p s)) ]) ≡ suc n
    by true ih = omega arith
    by false ih = omega arith

-- ---- gripping
pub shares-within : SharesWithin
shares-within n roles e s l = share-≤ (role roles s) (good-weights n roles e s l)

pub gram-within : GramWithin
gram-within n roles bs e h i j k l =
    let few = few_loose n roles e in
    let up = tally_up k n (λ s. is_loose (role roles s)) l in
    let all = sum-tally k (λ s. is_loose (role roles s)) (λ s. share (role roles s) *ℤ (coef bs i s *ℤ coef bs j s)) 12000000
    (λ s b q. ap (λ (x : ℤ). x *ℤ (coef bs i s *ℤ coef bs j s)) (no_share (role roles s) q) ∙ zero-*ℤ (coef bs i s *ℤ coef bs j s))
    (λ s b. product-≤ (share (role roles s)) (coef bs i s *ℤ coef bs j s) 12 1000000 (shares-within n roles e s (omega arith))
    (product-≤ (coef bs i s) (coef bs j s) 1000 1000 (h i s (omega arith)) (h j s (omega arith)))) in
    omega arith

-- ---- the values of a sheet
term-≤ : (a x d : ℤ) → nat_abs a ≤ 1000 → nat_abs x ≤ 47560 * nat_abs d → nat_abs d ≤ 45000 → nat_abs (a *ℤ x) ≤ 2140200000000
term-≤ a x d ha hx hd = let h : nat_abs x ≤ 2140200000 = omega arith in product-≤ a x 1000 2140200000 ha h

pub holding-within : HoldingWithin
holding-within size n d values cs q few fit coefs constant c k b l =
    let F = fit_values size n d values fit in
    let s = sum-≤ k (λ s. at cs s *ℤ coord values s c) 2140200000000
    (λ s u. term-≤ (at cs s) (coord values s c) d (above_false 1000 (at cs s) (any_false n _ coefs s (omega arith))) (F.small s (omega arith) c b) F.high) in
    let q' = product-≤ d (at q c) 45000 47560000 F.high (above_false 47560000 (at q c) (any_false size _ constant c b)) in
    omega (arith, nat_abs-- (sum_below k (λ s. at cs s *ℤ coord values s c)) (d *ℤ at q c))

held-0 : (r : Role) (x : ℤ) → is_held r ≡ false → if_held r x ≡ pos 0
held-0 Held x e = absurd (true≢false e)
held-0 Pulled x e = refl
held-0 (Loose w) x e = refl

moving-0 : (r : Role) (x : ℤ) → not (is_held r) ≡ false → if_moving r x ≡ pos 0
moving-0 Held x e = refl
moving-0 Pulled x e = absurd (true≢false e)
moving-0 (Loose w) x e = absurd (true≢false e)

held-≤ : (r : Role) (x : ℤ) (M : ℕ) → nat_abs x ≤ M → nat_abs (if_held r x) ≤ M
held-≤ Held x M h = h
held-≤ Pulled x M h = omega arith
held-≤ (Loose w) x M h = omega arith

moving-≤ : (r : Role) (x : ℤ) (M : ℕ) → (not (is_held r) ≡ true → nat_abs x ≤ M) → nat_abs (if_moving r x) ≤ M
moving-≤ Held x M h = omega arith
moving-≤ Pulled x M h = h refl
moving-≤ (Loose w) x M h = h refl

-- a wish that is read
pub wish-≤ : (size n : ℕ) (roles : List Role) (wishes : List (List ℤ)) → any n (λ s. not (is_held (role roles s)) && any size (λ c. above 47560 (coord wishes s c))) ≡ false
    → (s : ℕ) → s < n → not (is_held (role roles s)) ≡ true → (c : ℕ) → c < size → nat_abs (coord wishes s c) ≤ 47560
wish-≤ size n roles wishes e s l h c b =
    above_false 47560 (coord wishes s c) (any_false size (λ c. above 47560 (coord wishes s c))
    (by (and_cases (not (is_held (role roles s))) (any size (λ c. above 47560 (coord wishes s c))) (any_false n (λ s. not (is_held (role roles s)) && any size (λ c. above 47560 (coord wishes s c))) e s l))) c b)
  where
    by : ((not (is_held (role roles s)) ≡ false) ⊎ (any size (λ c. above 47560 (coord wishes s c)) ≡ false)) → any size (λ c. above 47560 (coord wishes s c)) ≡ false
    by (inl f) = absurd (true≢false (sym h ∙ f))
    by (inr f) = f

pub residual-within : ResidualWithin
residual-within size n roles bs d values wishes few fit far coefs constants i c j k b lj lk =
    let F = fit_values size n d values fit in
    let moving : ℕ → ℤ = λ s. if_moving (role roles s) (coef bs i s *ℤ coord wishes s c) in
    let helds : ℕ → ℤ = λ s. if_held (role roles s) (coef bs i s *ℤ coord values s c) in
    let m = sum-tally j (λ s. not (is_held (role roles s))) moving 47560000
    (λ s l e. moving-0 (role roles s) (coef bs i s *ℤ coord wishes s c) e)
    (λ s l. moving-≤ (role roles s) (coef bs i s *ℤ coord wishes s c) 47560000
    (λ e. product-≤ (coef bs i s) (coord wishes s c) 1000 47560 (coefs i s (omega arith)) (wish-≤ size n roles wishes far s (omega arith) e c b))) in
    let dm = product-≤ d (sum_below j moving) 45000 (tally j (λ s. not (is_held (role roles s))) * 47560000) F.high m in
    let h = sum-tally k (λ s. is_held (role roles s)) helds 2140200000000
    (λ s l e. held-0 (role roles s) (coef bs i s *ℤ coord values s c) e)
    (λ s l. held-≤ (role roles s) (coef bs i s *ℤ coord values s c) 2140200000000
    (term-≤ (coef bs i s) (coord values s c) d (coefs i s (omega arith)) (F.small s (omega arith) c b) F.high)) in
    let q = product-≤ d (const bs i c) 45000 47560000 F.high (constants i c b) in
    let both = tally_both n (λ s. is_held (role roles s)) in
    let um = tally_up j n (λ s. not (is_held (role roles s))) lj in
    let uh = tally_up k n (λ s. is_held (role roles s)) lk in
    omega (arith, nat_abs-- (d *ℤ const bs i c -ℤ d *ℤ sum_below j moving) (sum_below k helds), nat_abs-- (d *ℤ const bs i c) (d *ℤ sum_below j moving))

-- ---- pulling
pub carried-within : CarriedWithin
carried-within size m t cs few room small i c k l b u =
    let s = sum-≤ k (λ j. entry t i (m + j) *ℤ coord cs j c) 644245094100000000
    (λ j v. product-≤ (entry t i (m + j)) (coord cs j c) 2147483647 300000000 (entry-≤ m t room i (m + j) l (omega arith))
    (above_false 300000000 (coord cs j c) (any_false size _ (any_false m _ small j (omega arith)) c b))) in
    omega arith

pub multiple-within : MultipleWithin
multiple-within l p hl hp = mul-le-mul (le_trans (div-le_self l (gcd l p)) hl) hp

pub multiplier_within : MultiplierWithin
multiplier_within l p g hl hg = product-≤ (pos (l / p)) g 2147483647 2147483647 (le_trans (div-le_self l p) hl) hg

pub denominator_within : DenominatorWithin
denominator_within l d hl hd = let h = product-≤ (pos l) d 2147483647 45000 hl hd in omega arith

pub numerator-within : NumeratorWithin
numerator-within r l d n wish v m R x hl hd hn hw hv few hR hx k u = (omega (arith, total), by r hw)
  where
    total : nat_abs (sum_below k (λ i. x i *ℤ R i)) ≤ k * 1000000000000000
    total = sum-≤ k (λ i. x i *ℤ R i) 1000000000000000 (λ i b. product-≤ (x i) (R i) 1000000000000 1000 (hx i (omega arith)) (hR i (omega arith)))

    moved : nat_abs (v *ℤ sum_below k (λ i. x i *ℤ R i)) ≤ 144000000000000000
    moved = product-≤ v (sum_below k (λ i. x i *ℤ R i)) 12 12000000000000000 hv (omega (arith, total))

    wished : nat_abs wish ≤ 47560 → nat_abs (pos l *ℤ (d *ℤ wish)) ≤ 4596044501309400000
    wished h = product-≤ (pos l) (d *ℤ wish) 2147483647 2140200000 hl (product-≤ d wish 45000 47560 hd h)

    by : (r : Role) → (is_held r ≡ false → nat_abs wish ≤ 47560) → nat_abs (numerator r (pos l) d n wish v (sum_below k (λ i. x i *ℤ R i))) ≤ 5000000000000000000
    by Held h = let a : nat_abs n ≤ 2140200000 = omega arith in let b = product-≤ (pos l) n 2147483647 2140200000 hl a in omega arith
    by Pulled h = let a = wished (h refl) in omega arith
    by (Loose w) h = let a = wished (h refl) in omega (arith, moved, nat_abs-+ (pos l *ℤ (d *ℤ wish)) (v *ℤ sum_below k (λ i. x i *ℤ R i)))

pub room_for_all : RoomForAll
room_for_all = (omega arith, omega arith, omega arith, omega arith, omega arith)
