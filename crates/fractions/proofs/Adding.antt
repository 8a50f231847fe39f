-- u + k × v by coordinates, where every product and sum fits.
use Rattle.std.proofs.Common.{◌≡◌, ℕ, ◌^◌, ◌<◌, ◌≤◌, Bool, true, false, cond, List, length, ℤ, pos, ◌+ℤ◌, ◌*ℤ◌, nat_abs, sym, refl, ap, ◌∙◌, subst, arith, w64, SFits}
use lib.IntN.{zero-*ℤ, +ℤ_idr}
use Rattle.whole.specs.Lists.{at}
use Rattle.whole.proofs.Lists.{tab_of, tab_ext}
use Rattle.whole.proofs.Sizes.{fits}
use Rattle.kinds.specs.Coords.{plus_scaled}
use Rattle.kinds.specs.Outcomes.{all_fit}
use Rattle.kinds.proofs.Fitting.{at-plus_scaled, all_fit_from, combine_fits}
use Rattle.fractions.specs.Steps.{plus}

-- nothing is added
pub plus-nothing : (us vs : List ℤ) → plus us (pos 0) vs ≡ us
plus-nothing us vs = by (all_fit us (pos 0) vs)
  where
    none : plus_scaled us (pos 0) vs ≡ us
    none = tab_ext (length us) _ _ (λ c l. ap (λ (z : ℤ). at us c +ℤ z) (zero-*ℤ (at vs c)) ∙ +ℤ_idr (at us c)) ∙ tab_of us (pos 0)

    by : (b : Bool) → cond b (plus_scaled us (pos 0) vs) us ≡ us
    by true = none
    by false = refl

-- from f to g by one term, each product and each g at most B in size
module _ (size : ℕ) (us : List ℤ) (k : ℤ) (vs ws : List ℤ) (B : ℕ) (f g : ℕ → ℤ) (room : B < 2 ^ 63) (e : length us ≡ size) (is : ws ≡ plus us k vs)
    (before : (c : ℕ) → c < size → at us c ≡ f c) (step : (c : ℕ) → c < size → f c +ℤ k *ℤ at vs c ≡ g c)
    (term : (c : ℕ) → c < size → nat_abs (k *ℤ at vs c) ≤ B) (total : (c : ℕ) → c < size → nat_abs (g c) ≤ B) where
  next : (c : ℕ) → c < size → at us c +ℤ k *ℤ at vs c ≡ g c
  next c l = ap (λ (z : ℤ). z +ℤ k *ℤ at vs c) (before c l) ∙ step c l

  whole : ws ≡ plus_scaled us k vs
  whole = combine_fits us k vs ws is (all_fit_from us k vs (λ c l. both c (subst (λ (n : ℕ). c < n) e l)))
    where
      both : (c : ℕ) → c < size → SFits w64 (k *ℤ at vs c) × SFits w64 (at us c +ℤ k *ℤ at vs c)
      both c l = (fits (k *ℤ at vs c) (let h = term c l in omega arith), subst (λ (z : ℤ). SFits w64 z) (sym (next c l)) (fits (g c) (let h = total c l in omega arith)))

  pub added : (c : ℕ) → c < size → at ws c ≡ g c
  added c l = ap (λ (x : List ℤ). at x c) whole ∙ at-plus_scaled us k vs c (subst (λ (n : ℕ). c < n) (sym e) l) ∙ next c l
