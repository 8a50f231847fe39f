-- One parameter's numerator.
use Rattle.std.proofs.Common.{◌≡◌, ℕ, ◌<◌, ◌≤◌, false, not, List, [], length, get_or, replicate, ℤ, pos, ◌+ℤ◌, ◌*ℤ◌, nat_abs, sym, refl, ap, ◌∙◌, subst, true≢false, arith}
use lib.IntN.{+ℤ_idl, *ℤ_comm}
use Rattle.whole.specs.Lists.{tab, at, coord}
use Rattle.whole.proofs.Lists.{tab_ext, at-tab}
use Rattle.whole.proofs.Sums.{sum_ext}
use Rattle.whole.proofs.Sizes.{product-≤}
use Rattle.whole.proofs.Tests.{any_false, above_false}
use Rattle.records.specs.declared.relation.Relation.{Relation}
use Rattle.rules.specs.Sheets.{relation_at, unfit_values}
use Rattle.rules.specs.Gripping.{role, is_held}
use Rattle.rules.proofs.Bounds.{wish-≤, numerator-within}
use Rattle.rules.proofs.Fit.{fit_values}
use Rattle.whole.proofs.Integers.{*-assoc}
use Rattle.records.specs.declared.role.Role.{Role}
use Rattle.records.specs.declared.role.Role.TheVariants.{Held, Pulled, Loose}
use Rattle.rules.specs.Values.{Coords}
use Rattle.rules.specs.Pulling.{numerator, far_wish, some_above}
use Rattle.fractions.specs.Steps.{plus}
use Rattle.pulls.specs.Steps.{numerator_over, shift_at}
use Rattle.fractions.proofs.Placed.{tabbed}
use Rattle.fractions.proofs.Adding.{added}
use Rattle.fractions.proofs.Zeros.{zero_at, zero_length}

-- a factor times a value
module _ (size : ℕ) (none : List ℤ) (k : ℤ) (us ws : List ℤ) (zeros : none ≡ replicate size (pos 0)) (is : ws ≡ plus none k us) (within : (c : ℕ) → c < size → nat_abs (k *ℤ at us c) ≤ 5000000000000000000) where
  pub single_at : (c : ℕ) → c < size → at ws c ≡ k *ℤ at us c
  single_at = added size none k us ws 5000000000000000000 (λ c. pos 0) (λ c. k *ℤ at us c) (omega arith) (zero_length size none zeros) is (λ c b. zero_at size none zeros c) (λ c b. +ℤ_idl (k *ℤ at us c)) within within

  pub single : length ws ≡ size → ws ≡ tab size (λ c. k *ℤ at us c)
  single sized = tabbed size ws (λ c. k *ℤ at us c) sized single_at

  -- and a second one added
  pub double : (v : ℤ) (ys zs : List ℤ) → length ws ≡ size → length zs ≡ size → zs ≡ plus ws v ys → ((c : ℕ) → c < size → nat_abs (v *ℤ at ys c) ≤ 5000000000000000000)
      → ((c : ℕ) → c < size → nat_abs (k *ℤ at us c +ℤ v *ℤ at ys c) ≤ 5000000000000000000) → zs ≡ tab size (λ c. k *ℤ at us c +ℤ v *ℤ at ys c)
  double v ys zs sized sized' e term total =
      tabbed size zs (λ c. k *ℤ at us c +ℤ v *ℤ at ys c) sized'
      (added size ws v ys zs 5000000000000000000 (λ c. k *ℤ at us c) (λ c. k *ℤ at us c +ℤ v *ℤ at ys c) (omega arith) sized e single_at (λ c b. refl) term total)

-- over e = l × d
over-product : (r : Role) (l d n wish v x : ℤ) → numerator_over r l (l *ℤ d) n wish v x ≡ numerator r l d n wish v x
over-product Held l d n wish v x = refl
over-product Pulled l d n wish v x = *-assoc l d wish
over-product (Loose w) l d n wish v x = ap (λ (z : ℤ). z +ℤ v *ℤ x) (*-assoc l d wish)

-- the sizes of one parameter's numbers at coordinate c
module _ (size n : ℕ) (roles : List Role) (l : ℕ) (d : ℤ) (values wishes : List Coords) (v : ℤ) (rs : List Relation) (rows : List ℕ) (xs : List Coords) (s c : ℕ) (few : l ≤ 2147483647)
    (fit : unfit_values size n d values ≡ false) (near : far_wish size n roles wishes ≡ false) (share : nat_abs v ≤ 12) (some : length rows ≤ 12)
    (small : (i : ℕ) → i < length rows → nat_abs (at (relation_at rs (get_or rows i 0)).coefficients s) ≤ 1000) (limited : some_above 1000000000000 size (length rows) xs ≡ false) (below : s < n) (inside : c < size) where
  wish_small : is_held (role roles s) ≡ false → nat_abs (coord wishes s c) ≤ 47560
  wish_small h = wish-≤ size n roles wishes near s below (ap not h) c inside

  both : (r : Role) → (is_held r ≡ false → nat_abs (coord wishes s c) ≤ 47560) → (nat_abs (shift_at rs rows xs s c) ≤ 12000000000000000) × (nat_abs (numerator r (pos l) d (coord values s c) (coord wishes s c) v (shift_at rs rows xs s c)) ≤ 5000000000000000000)
  both r h = subst (λ (x : ℤ). (nat_abs x ≤ 12000000000000000) × (nat_abs (numerator r (pos l) d (coord values s c) (coord wishes s c) v x) ≤ 5000000000000000000))
      (sum_ext (length rows) (λ i b. *ℤ_comm (coord xs i c) (at (relation_at rs (get_or rows i 0)).coefficients s)))
      (numerator-within r l d (coord values s c) (coord wishes s c) v (length rows) (λ i. at (relation_at rs (get_or rows i 0)).coefficients s) (λ i. coord xs i c) few (fit_values size n d values fit).high
      ((fit_values size n d values fit).small s below c inside) h share some small (λ i b. above_false 1000000000000 (coord xs i c) (any_false size _ (any_false (length rows) _ limited i b) c inside)) (length rows) (omega arith))

  whole-within : nat_abs (numerator_over (role roles s) (pos l) (pos l *ℤ d) (coord values s c) (coord wishes s c) v (shift_at rs rows xs s c)) ≤ 5000000000000000000
  whole-within = subst (λ (z : ℤ). nat_abs z ≤ 5000000000000000000) (sym (over-product (role roles s) (pos l) d (coord values s c) (coord wishes s c) v (shift_at rs rows xs s c))) (both (role roles s) wish_small).1

  wish_within : is_held (role roles s) ≡ false → nat_abs (pos l *ℤ d *ℤ coord wishes s c) ≤ 5000000000000000000
  wish_within h = subst (λ (z : ℤ). nat_abs z ≤ 5000000000000000000) (sym (over-product Pulled (pos l) d (coord values s c) (coord wishes s c) v (shift_at rs rows xs s c))) (both Pulled (λ _. wish_small h)).1

  shift_within : nat_abs (v *ℤ shift_at rs rows xs s c) ≤ 5000000000000000000
  shift_within = let a = product-≤ v (shift_at rs rows xs s c) 12 12000000000000000 share (both Held (λ e. absurd (true≢false e))).0 in omega arith

-- what code has of one parameter: its role r, l and l × d as L and E, its v(s) as V, its value y, its wish x and its shift
module _ (size n : ℕ) (roles : List Role) (l : ℕ) (d : ℤ) (values wishes : List Coords) (v : ℤ) (rs : List Relation) (rows : List ℕ) (xs : List Coords) (s : ℕ)
    (r : Role) (L E V : ℤ) (y x moved : Coords) (role_is : r ≡ role roles s) (l_is : L ≡ pos l) (e_is : E ≡ pos l *ℤ d) (v_is : V ≡ v)
    (value_is : y ≡ get_or values s []) (wish_is : x ≡ get_or wishes s []) (moved_is : moved ≡ tab size (shift_at rs rows xs s)) where
  shift : (c : ℕ) → c < size → at moved c ≡ shift_at rs rows xs s c
  shift c b = ap (λ (u : Coords). at u c) moved_is ∙ at-tab size (shift_at rs rows xs s) c b

  pub number_is : tab size (λ c. numerator_over r L E (at y c) (at x c) V (at moved c)) ≡ tab size (λ c. numerator (role roles s) (pos l) d (coord values s c) (coord wishes s c) v (shift_at rs rows xs s c))
  number_is = tab_ext size _ _ (λ c b. (λ i. numerator_over (role_is i) (l_is i) (e_is i) (at (value_is i) c) (at (wish_is i) c) (v_is i) (shift c b i))
      ∙ over-product (role roles s) (pos l) d (coord values s c) (coord wishes s c) v (shift_at rs rows xs s c))

  pub numbers-within : l ≤ 2147483647 → unfit_values size n d values ≡ false → far_wish size n roles wishes ≡ false → nat_abs v ≤ 12 → length rows ≤ 12
      → ((i : ℕ) → i < length rows → nat_abs (at (relation_at rs (get_or rows i 0)).coefficients s) ≤ 1000) → some_above 1000000000000 size (length rows) xs ≡ false → s < n
      → (is_held r ≡ false → (c : ℕ) → c < size → nat_abs (E *ℤ at x c) ≤ 5000000000000000000)
      × ((c : ℕ) → c < size → nat_abs (V *ℤ at moved c) ≤ 5000000000000000000)
      × ((c : ℕ) → c < size → nat_abs (numerator_over r L E (at y c) (at x c) V (at moved c)) ≤ 5000000000000000000)
  numbers-within few fit near share some small limited below = (
    λ h c b. subst (λ (z : ℤ). nat_abs z ≤ 5000000000000000000) (sym (λ i. e_is i *ℤ at (wish_is i) c))
        (wish_within size n roles l d values wishes v rs rows xs s c few fit near share some small limited below b (sym (ap is_held role_is) ∙ h)),
    λ c b. subst (λ (z : ℤ). nat_abs z ≤ 5000000000000000000) (sym (λ i. v_is i *ℤ shift c b i))
        (shift_within size n roles l d values wishes v rs rows xs s c few fit near share some small limited below b),
    λ c b. subst (λ (z : ℤ). nat_abs z ≤ 5000000000000000000) (sym (λ i. numerator_over (role_is i) (l_is i) (e_is i) (at (value_is i) c) (at (wish_is i) c) (v_is i) (shift c b i)))
        (whole-within size n roles l d values wishes v rs rows xs s c few fit near share some small limited below b),
  )
