-- Roles: what they say of weights and shares.
use Rattle.std.proofs.Common.{◌≡◌, ℕ, ◌<◌, ◌≤◌, Bool, true, false, not, ◌||◌, ltb, ◌≢◌, ◌⊎◌, List, ℤ, pos, ◌*ℤ◌, nat_abs, ◌≤ℤ◌, sym, refl, subst, inl, inr, ⊎_elim, arith}
use lib.Signed.{quot_z}
use borrow.Author.Differences.{ints}
use Rattle.std.proofs.lemmas.Bool.{or_parts, or_cases, not-true, not-false, ltb-false}
use Rattle.whole.specs.Tests.{any, tally, differ}
use Rattle.whole.proofs.Tests.{any_false, differ_false}
use Rattle.records.specs.declared.role.Role.{Role}
use Rattle.records.specs.declared.role.Role.TheVariants.{Held, Pulled, Loose}
use Rattle.rules.specs.Limits.{most_loose}
use Rattle.rules.specs.Gripping.{role, is_pulled, is_loose, is_weight, bad_weight, bad_roles, share}

pub record Weight (w : ℤ) : Type 0 where
  pub share-≥0 : pos 0 ≤ℤ quot_z (pos 12) w
  pub share-≤ : nat_abs (quot_z (pos 12) w) ≤ 12
  pub weight-≥0 : pos 0 ≤ℤ w
  pub twelve : w *ℤ quot_z (pos 12) w ≡ pos 12
  pub some : quot_z (pos 12) w ≢ pos 0

one_of : (w x : ℤ) → not (differ w x) ≡ true → Weight x → Weight w
one_of w x e f = subst Weight (sym (differ_false w x (not-true (differ w x) e))) f

weight-1 : Weight (pos 1)
weight-1 = record { share-≥0 = omega (arith, ints); share-≤ = omega arith; weight-≥0 = omega (arith, ints); twelve = refl; some = λ e. omega (arith, ints) }

weight-2 : Weight (pos 2)
weight-2 = record { share-≥0 = omega (arith, ints); share-≤ = omega arith; weight-≥0 = omega (arith, ints); twelve = refl; some = λ e. omega (arith, ints) }

weight-3 : Weight (pos 3)
weight-3 = record { share-≥0 = omega (arith, ints); share-≤ = omega arith; weight-≥0 = omega (arith, ints); twelve = refl; some = λ e. omega (arith, ints) }

weight-4 : Weight (pos 4)
weight-4 = record { share-≥0 = omega (arith, ints); share-≤ = omega arith; weight-≥0 = omega (arith, ints); twelve = refl; some = λ e. omega (arith, ints) }

weight-6 : Weight (pos 6)
weight-6 = record { share-≥0 = omega (arith, ints); share-≤ = omega arith; weight-≥0 = omega (arith, ints); twelve = refl; some = λ e. omega (arith, ints) }

weight-12 : Weight (pos 12)
weight-12 = record { share-≥0 = omega (arith, ints); share-≤ = omega arith; weight-≥0 = omega (arith, ints); twelve = refl; some = λ e. omega (arith, ints) }

pub weight_is : (w : ℤ) → is_weight w ≡ true → Weight w
weight_is w e = ⊎_elim (λ e. ⊎_elim (λ e. ⊎_elim (λ e. ⊎_elim (λ e. ⊎_elim
    (λ h. one_of w (pos 1) h weight-1) (λ h. one_of w (pos 2) h weight-2) (or_cases (is 1) (is 2) e))
    (λ h. one_of w (pos 3) h weight-3) (or_cases (is 1 || is 2) (is 3) e))
    (λ h. one_of w (pos 4) h weight-4) (or_cases (is 1 || is 2 || is 3) (is 4) e))
    (λ h. one_of w (pos 6) h weight-6) (or_cases (is 1 || is 2 || is 3 || is 4) (is 6) e))
    (λ h. one_of w (pos 12) h weight-12) (or_cases (is 1 || is 2 || is 3 || is 4 || is 6) (is 12) e)
  where
    is : ℕ → Bool
    is x = not (differ w (pos x))

pub share-≥0 : (r : Role) → bad_weight r ≡ false → pos 0 ≤ℤ share r
share-≥0 Held e = omega (arith, ints)
share-≥0 Pulled e = omega (arith, ints)
share-≥0 (Loose w) e = (weight_is w (not-false (is_weight w) e)).share-≥0

pub share-≤ : (r : Role) → bad_weight r ≡ false → nat_abs (share r) ≤ 12
share-≤ Held e = omega arith
share-≤ Pulled e = omega arith
share-≤ (Loose w) e = (weight_is w (not-false (is_weight w) e)).share-≤

-- only a loose parameter has a share
pub no_share : (r : Role) → is_loose r ≡ false → share r ≡ pos 0
no_share Held e = refl
no_share Pulled e = refl
no_share (Loose w) e = absurd (mathlib.Core.Bool.true≢false e)

-- a role whose share is 0 is no loose one
pub fixed_roles : (r : Role) → bad_weight r ≡ false → share r ≡ pos 0 → (r ≡ Held) ⊎ (r ≡ Pulled)
fixed_roles Held e q = inl refl
fixed_roles Pulled e q = inr refl
fixed_roles (Loose w) e q = absurd ((weight_is w (not-false (is_weight w) e)).some q)

-- what roles in order say
pub good-weights : (n : ℕ) (roles : List Role) → bad_roles n roles ≡ false → (s : ℕ) → s < n → bad_weight (role roles s) ≡ false
good-weights n roles e =
    let a = or_parts (not (any n (λ s. is_pulled (role roles s))) || any n (λ s. bad_weight (role roles s))) (ltb most_loose (tally n (λ s. is_loose (role roles s)))) e in
    let b = or_parts (not (any n (λ s. is_pulled (role roles s)))) (any n (λ s. bad_weight (role roles s))) a.0 in
    any_false n (λ s. bad_weight (role roles s)) b.1

pub few_loose : (n : ℕ) (roles : List Role) → bad_roles n roles ≡ false → tally n (λ s. is_loose (role roles s)) ≤ most_loose
few_loose n roles e =
    let a = or_parts (not (any n (λ s. is_pulled (role roles s))) || any n (λ s. bad_weight (role roles s))) (ltb most_loose (tally n (λ s. is_loose (role roles s)))) e in
    ltb-false _ _ a.1
