-- When u + k × v fits, and what stands at each coordinate of it.
use Rattle.std.proofs.Common.{◌≡◌, ℕ, ◌+◌, ◌*◌, ◌^◌, ◌<◌, ◌≤◌, Bool, true, false, cond, not, List, length, ℤ, ◌+ℤ◌, ◌*ℤ◌, nat_abs, ap, ◌∙◌, arith, w64, SFits}
use borrow.Author.Differences.{ints}
use Rattle.std.proofs.lemmas.Bool.{or_from, not_from_true, not_from_false}
use Rattle.whole.specs.Lists.{at}
use Rattle.kinds.specs.Coords.{plus_scaled}
use Rattle.kinds.specs.Outcomes.{fits64, misfit, all_fit}
use Rattle.whole.proofs.Lists.{tab-length, at-tab}
use Rattle.whole.proofs.Sizes.{product-≤}
use Rattle.whole.proofs.Tests.{none_any}
use Rattle.kinds.proofs.Steps.{fits_true}

pub length-plus_scaled : (us : List ℤ) (k : ℤ) (vs : List ℤ) → length (plus_scaled us k vs) ≡ length us
length-plus_scaled us k vs = tab-length (length us) _

pub at-plus_scaled : (us : List ℤ) (k : ℤ) (vs : List ℤ) (c : ℕ) → c < length us → at (plus_scaled us k vs) c ≡ at us c +ℤ k *ℤ at vs c
at-plus_scaled us k vs c h = at-tab (length us) (λ c. at us c +ℤ k *ℤ at vs c) c h

-- it fits where each product and each sum does
pub all_fit_from : (us : List ℤ) (k : ℤ) (vs : List ℤ) → ((c : ℕ) → c < length us → SFits w64 (k *ℤ at vs c) × SFits w64 (at us c +ℤ k *ℤ at vs c)) → all_fit us k vs ≡ true
all_fit_from us k vs h = not_from_false _ (none_any (length us) (λ c. misfit (at us c) k (at vs c)) (λ c l. fine (at us c) (at vs c) (h c l)))
  where
    fine : (u v : ℤ) → SFits w64 (k *ℤ v) × SFits w64 (u +ℤ k *ℤ v) → misfit u k v ≡ false
    fine u v f = or_from (not (fits64 (k *ℤ v))) (not (fits64 (u +ℤ k *ℤ v))) (not_from_true _ (fits_true _ f.0)) (not_from_true _ (fits_true _ f.1))

-- sizes that are small enough
pub fits-within : (a b n : ℕ) (u k v : ℤ) → nat_abs u ≤ a → nat_abs v ≤ b → nat_abs k ≤ n → a + n * b < 2 ^ 63 → SFits w64 (k *ℤ v) × SFits w64 (u +ℤ k *ℤ v)
fits-within a b n u k v p q r room = sized (k *ℤ v) (n * b) (product-≤ k v n b r q) room
  where
    sized : (z : ℤ) (m : ℕ) → nat_abs z ≤ m → a + m < 2 ^ 63 → SFits w64 z × SFits w64 (u +ℤ z)
    sized z m h l = (omega (arith, ints), omega (arith, ints))

-- what `combine` gives where it fits
pub combine_fits : (us : List ℤ) (k : ℤ) (vs ws : List ℤ) → ws ≡ cond (all_fit us k vs) (plus_scaled us k vs) us → all_fit us k vs ≡ true → ws ≡ plus_scaled us k vs
combine_fits us k vs ws e f = e ∙ ap (λ (b : Bool). cond b (plus_scaled us k vs) us) f
