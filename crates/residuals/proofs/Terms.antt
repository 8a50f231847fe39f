-- One relation's residual, term by term.
use Rattle.std.proofs.Common.{◌≡◌, ℕ, zero, suc, ◌+◌, ◌<◌, ◌≤◌, false, List, [], ◌∷◌, length, get_or, replicate, ℤ, pos, ◌+ℤ◌, ◌-ℤ◌, ◌*ℤ◌, nat_abs, sym, ◌∙◌, ap₂, arith}
use lib.IntN.{+ℤ_idl}
use borrow.Author.Differences.{ints}
use Rattle.whole.specs.Lists.{at, coord}
use Rattle.whole.specs.Sums.{sum_below}
use Rattle.whole.proofs.Ring.{v, k, ◌⊕◌, ◌⊖◌, ◌⊗◌, ⊝, ring}
use Rattle.whole.proofs.Sizes.{product-≤}
use Rattle.whole.proofs.Tests.{any_false, above_false}
use Rattle.records.specs.declared.role.Role.{Role}
use Rattle.records.specs.declared.role.Role.TheVariants.{Held, Pulled, Loose}
use Rattle.rules.specs.Values.{Coords}
use Rattle.rules.specs.Sheets.{Bond, bad_coefs, bad_constant, unfit_values}
use Rattle.rules.specs.Gripping.{role}
use Rattle.rules.specs.Pulling.{if_held, if_moving, far_wish}
use Rattle.rules.specs.Bounds.{CoefsWithin, ConstantsWithin}
use Rattle.rules.proofs.Bounds.{residual-within}
use Rattle.rules.proofs.Fit.{fit_values}
use Rattle.whole.proofs.Sums.{sum_more}
use Rattle.fractions.specs.Steps.{plus}
use Rattle.residuals.specs.Steps.{factor, taken, less_terms, residual_at}
use Rattle.fractions.proofs.Adding.{added}
use Rattle.fractions.proofs.Zeros.{zero_at, zero_length}

-- before the first term
no_terms : (roles : List Role) (d : ℤ) (values wishes : List Coords) (cs : List ℤ) (c : ℕ) (x : ℤ) → x ≡ less_terms 0 roles d values wishes cs c x
unfolding sum_below
no_terms roles d values wishes cs c x = ring (x ∷ d ∷ []) (v 0) (v 0 ⊖ v 1 ⊗ k (pos 0) ⊖ k (pos 0)) tt

-- one term more
one : (r : Role) (D x M H a : ℤ) (w y : Coords) (c : ℕ) → (x -ℤ D *ℤ M -ℤ H) +ℤ factor r D a *ℤ at (taken r w y) c ≡ x -ℤ D *ℤ (M +ℤ if_moving r (a *ℤ at w c)) -ℤ (H +ℤ if_held r (a *ℤ at y c))
one Held D x M H a w y c = ring (D ∷ x ∷ M ∷ H ∷ a ∷ at y c ∷ []) ((v 1 ⊖ v 0 ⊗ v 2 ⊖ v 3) ⊕ ⊝ (v 4) ⊗ v 5) (v 1 ⊖ v 0 ⊗ (v 2 ⊕ k (pos 0)) ⊖ (v 3 ⊕ v 4 ⊗ v 5)) tt
one Pulled D x M H a w y c = ring (D ∷ x ∷ M ∷ H ∷ a ∷ at w c ∷ []) ((v 1 ⊖ v 0 ⊗ v 2 ⊖ v 3) ⊕ ⊝ (v 0 ⊗ v 4) ⊗ v 5) (v 1 ⊖ v 0 ⊗ (v 2 ⊕ v 4 ⊗ v 5) ⊖ (v 3 ⊕ k (pos 0))) tt
one (Loose u) D x M H a w y c = ring (D ∷ x ∷ M ∷ H ∷ a ∷ at w c ∷ []) ((v 1 ⊖ v 0 ⊗ v 2 ⊖ v 3) ⊕ ⊝ (v 0 ⊗ v 4) ⊗ v 5) (v 1 ⊖ v 0 ⊗ (v 2 ⊕ v 4 ⊗ v 5) ⊖ (v 3 ⊕ k (pos 0))) tt

module _ (size n : ℕ) (roles : List Role) (d : ℤ) (values wishes : List Coords) (cs : List ℤ) (q : Coords) (few : n ≤ 48) (fit : unfit_values size n d values ≡ false) (near : far_wish size n roles wishes ≡ false)
    (small : bad_coefs n cs ≡ false) (constant : bad_constant size q ≡ false) where
  only : List Bond
  only = record { coefs = cs; constant = q } ∷ []

  coefs : CoefsWithin n only
  unfolding only
  coefs zero s l = above_false 1000 (at cs s) (any_false n _ small s l)
  coefs (suc i) s l = omega arith

  constants : ConstantsWithin size only
  unfolding only
  constants zero c l = above_false 47560000 (at q c) (any_false size _ constant c l)
  constants (suc i) c l = omega arith

  pub within : (c s : ℕ) → c < size → s ≤ n → nat_abs (residual_at s roles d values wishes cs q c) ≤ 110000000000000
  unfolding only
  within c s l h = residual-within size n roles only d values wishes few fit near coefs constants 0 c s s l h h

  -- d × q
  pub begun : (us ws : List ℤ) → us ≡ replicate size (pos 0) → ws ≡ plus us d q → (c : ℕ) → c < size → at ws c ≡ residual_at 0 roles d values wishes cs q c
  unfolding only
  begun us ws none is c l =
      added size us d q ws 110000000000000 (λ c. pos 0) (λ c. d *ℤ at q c) (omega arith) (zero_length size us none) is (λ c b. zero_at size us none c) (λ c b. +ℤ_idl (d *ℤ at q c)) first first c l ∙ no_terms roles d values wishes cs c (d *ℤ at q c)
    where
      first : (c : ℕ) → c < size → nat_abs (d *ℤ at q c) ≤ 110000000000000
      first c b = let a = product-≤ d (at q c) 45000 47560000 (fit_values size n d values fit).high (constants 0 c b) in omega arith

  pub less_one : (s : ℕ) → s < n → (us ws : List ℤ) → length us ≡ size → ws ≡ plus us (factor (role roles s) d (at cs s)) (taken (role roles s) (get_or wishes s []) (get_or values s []))
      → ((c : ℕ) → c < size → at us c ≡ residual_at s roles d values wishes cs q c) → (c : ℕ) → c < size → at ws c ≡ residual_at (s + 1) roles d values wishes cs q c
  less_one s b us ws sized is before =
      added size us (factor (role roles s) d (at cs s)) (taken (role roles s) (get_or wishes s []) (get_or values s [])) ws 220000000000000 (λ c. residual_at s roles d values wishes cs q c) (λ c. residual_at (s + 1) roles d values wishes cs q c)
      (omega arith) sized is before step (λ c l. term c l (step c l)) (λ c l. let h = within c (s + 1) l (omega arith) in omega arith)
    where
      step : (c : ℕ) → c < size → residual_at s roles d values wishes cs q c +ℤ factor (role roles s) d (at cs s) *ℤ at (taken (role roles s) (get_or wishes s []) (get_or values s [])) c ≡ residual_at (s + 1) roles d values wishes cs q c
      step c l =
          let M : ℕ → ℤ = λ s. if_moving (role roles s) (at cs s *ℤ coord wishes s c) in
          let H : ℕ → ℤ = λ s. if_held (role roles s) (at cs s *ℤ coord values s c) in
          one (role roles s) d (d *ℤ at q c) (sum_below s M) (sum_below s H) (at cs s) (get_or wishes s []) (get_or values s []) c
          ∙ ap₂ (λ (a e : ℤ). d *ℤ at q c -ℤ d *ℤ a -ℤ e) (sym (sum_more s M)) (sym (sum_more s H))

      term : (c : ℕ) → c < size → residual_at s roles d values wishes cs q c +ℤ factor (role roles s) d (at cs s) *ℤ at (taken (role roles s) (get_or wishes s []) (get_or values s [])) c ≡ residual_at (s + 1) roles d values wishes cs q c
          → nat_abs (factor (role roles s) d (at cs s) *ℤ at (taken (role roles s) (get_or wishes s []) (get_or values s [])) c) ≤ 220000000000000
      term c l e = apart (residual_at s roles d values wishes cs q c) _ (residual_at (s + 1) roles d values wishes cs q c) e (within c s l (omega arith)) (within c (s + 1) l (omega arith))
        where
          apart : (a b e : ℤ) → a +ℤ b ≡ e → nat_abs a ≤ 110000000000000 → nat_abs e ≤ 110000000000000 → nat_abs b ≤ 220000000000000
          apart a b e p h i = omega (arith, ints)
