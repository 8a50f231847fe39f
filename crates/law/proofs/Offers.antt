-- What a pull works out, in the terms of the linear theory: where each parameter starts from, what each relation lacks there, and what the numerators are.
use Rattle.std.proofs.Common.{◌≡◌, ℕ, ◌+◌, ◌<◌, false, ◌⊎◌, List, [], ◌∷◌, length, get_or, ℤ, pos, ◌+ℤ◌, ◌-ℤ◌, ◌*ℤ◌, ◌≤ℤ◌, ◌<ℤ◌, sym, refl, ap, ◌∙◌, subst, inl, inr, ⊎_elim, arith}
use borrow.Author.Differences.{ints}
use Rattle.std.proofs.lemmas.Bool.{not-false}
use Rattle.whole.specs.Lists.{at, coord}
use Rattle.whole.specs.Sums.{sum_below}
use Rattle.whole.proofs.Integers.{*->0, cancel-*, cancel-<}
use Rattle.whole.proofs.Lists.{at-tab}
use Rattle.whole.proofs.Ring.{v, k, ◌⊕◌, ◌⊖◌, ◌⊗◌, ring}
use Rattle.whole.proofs.Sums.{sum_ext, sum_add, sum_scale}
use Rattle.linear.specs.Gram.{dot}
use Rattle.linear.specs.Elimination.{Grid, entry}
use Rattle.linear.specs.Products.{InnerProduct}
use Rattle.linear.specs.Placings as Low
use Rattle.linear.proofs.Products.{total_scale}
use Rattle.records.specs.declared.role.Role.{Role}
use Rattle.records.specs.declared.role.Role.TheVariants.{Held, Pulled, Loose}
use Rattle.rules.specs.Values.{Coords}
use Rattle.rules.specs.Sheets.{Bond, no_bond}
use Rattle.rules.specs.Gripping.{role, coef, counted, share, shares, bad_weight, is_weight}
use Rattle.rules.specs.Pulling.{Placing, const, if_held, if_moving, residuals, carried, numerator, numerators}
use Rattle.rules.proofs.Counting.{among, counts_or_not, idle_at}
use Rattle.rules.proofs.Roles.{weight_is, fixed_roles}
use Rattle.law.specs.Placings.{Shaped, AllHold, Meets, weight_of, cost, Nearer}
use Rattle.law.proofs.Divided.{coord-grid}

-- ---- one parameter
-- where it starts from, over d
abbrev pub base_of : Role → ℤ → ℤ → ℤ → ℤ
base_of Held d n w = n
base_of Pulled d n w = d *ℤ w
base_of (Loose x) d n w = d *ℤ w

split : (r : Role) (d a n w : ℤ) → a *ℤ base_of r d n w ≡ d *ℤ if_moving r (a *ℤ w) +ℤ if_held r (a *ℤ n)
split Held d a n w = ring (d ∷ a ∷ n ∷ []) (v 1 ⊗ v 2) (v 0 ⊗ k (pos 0) ⊕ v 1 ⊗ v 2) tt
split Pulled d a n w = ring (d ∷ a ∷ w ∷ []) (v 1 ⊗ (v 0 ⊗ v 2)) (v 0 ⊗ (v 1 ⊗ v 2) ⊕ k (pos 0)) tt
split (Loose x) d a n w = ring (d ∷ a ∷ w ∷ []) (v 1 ⊗ (v 0 ⊗ v 2)) (v 0 ⊗ (v 1 ⊗ v 2) ⊕ k (pos 0)) tt

numerator_is : (r : Role) (l d n w s x : ℤ) → s ≡ share r → numerator r l d n w s x ≡ l *ℤ base_of r d n w +ℤ share r *ℤ x
numerator_is Held l d n w s x e = ring (l ∷ n ∷ x ∷ []) (v 0 ⊗ v 1) (v 0 ⊗ v 1 ⊕ k (pos 0) ⊗ v 2) tt
numerator_is Pulled l d n w s x e = ring (l ∷ d ∷ w ∷ x ∷ []) (v 0 ⊗ (v 1 ⊗ v 2)) (v 0 ⊗ (v 1 ⊗ v 2) ⊕ k (pos 0) ⊗ v 3) tt
numerator_is (Loose y) l d n w s x e = ap (λ z. l *ℤ (d *ℤ w) +ℤ z *ℤ x) e

weighing : (r : Role) → bad_weight r ≡ false → (pos 0 ≤ℤ share r) × (pos 0 ≤ℤ weight_of r) × ((share r ≡ pos 0) ⊎ (weight_of r *ℤ share r ≡ pos 12))
weighing Held e = (omega (arith, ints), omega (arith, ints), inl refl)
weighing Pulled e = (omega (arith, ints), omega (arith, ints), inl refl)
weighing (Loose w) e = let f = weight_is w (not-false (is_weight w) e) in (f.share-≥0, f.weight-≥0, inr f.twelve)

module _ (size n : ℕ) (roles : List Role) (bs : List Bond) (d : ℤ) (values wishes : List Coords) where
  abbrev pub rs : List Bond
  rs = counted n roles bs

  abbrev pub m : ℕ
  m = length rs

  abbrev pub V : ℕ → ℤ
  V s = share (role roles s)

  abbrev pub W : ℕ → ℤ
  W s = weight_of (role roles s)

  abbrev pub base : ℕ → ℕ → ℤ
  base s c = base_of (role roles s) d (coord values s c) (coord wishes s c)

  abbrev pub lack : ℕ → ℕ → ℤ
  lack i c = Low.residual n (coef rs) (const rs) d base i c

  -- ---- the residuals and what they carry
  residual_is : (i : ℕ) → i < m → (c : ℕ) → c < size → coord (residuals size n roles rs d values wishes) i c ≡ lack i c
  residual_is i l c b =
      coord-grid m size (λ i c. d *ℤ const rs i c -ℤ d *ℤ sum_below n (λ s. if_moving (role roles s) (coef rs i s *ℤ coord wishes s c)) -ℤ sum_below n (λ s. if_held (role roles s) (coef rs i s *ℤ coord values s c))) i l c b
      ∙ ring ((d *ℤ const rs i c) ∷ (d *ℤ sum_below n moving) ∷ sum_below n helds ∷ []) (v 0 ⊖ v 1 ⊖ v 2) (v 0 ⊖ (v 1 ⊕ v 2)) tt
      ∙ ap (λ x. d *ℤ const rs i c -ℤ x) (sym whole)
    where
      moving : ℕ → ℤ
      moving s = if_moving (role roles s) (coef rs i s *ℤ coord wishes s c)

      helds : ℕ → ℤ
      helds s = if_held (role roles s) (coef rs i s *ℤ coord values s c)

      whole : dot n (coef rs i) (λ s. base s c) ≡ d *ℤ sum_below n moving +ℤ sum_below n helds
      whole = sum_ext n (λ s u. split (role roles s) d (coef rs i s) (coord values s c) (coord wishes s c))
          ∙ sum_add n (λ s. d *ℤ moving s) helds ∙ ap (λ x. x +ℤ sum_below n helds) (sum_scale n d moving)

  pub carried_is : (t : Grid) (i : ℕ) → i < m → (c : ℕ) → c < size → coord (carried size m t (residuals size n roles rs d values wishes)) i c ≡ Low.carried m t lack i c
  carried_is t i l c b = coord-grid m size (λ i c. sum_below m (λ j. entry t i (m + j) *ℤ coord (residuals size n roles rs d values wishes) j c)) i l c b
      ∙ sum_ext m (λ j u. ap (λ x. entry t i (m + j) *ℤ x) (residual_is j u c b))

  -- ---- the numerators
  pub numerators_are : (l : ℕ) (xs : List Coords) (s : ℕ) → s < n → (c : ℕ) → c < size
      → coord (numerators size n roles (shares n roles) rs l d values wishes xs) s c ≡ Low.placed m V (coef rs) (pos l) base (λ i c. coord xs i c) s c
  numerators_are l xs s u c b =
      coord-grid n size (λ s c. numerator (role roles s) (pos l) d (coord values s c) (coord wishes s c) (at (shares n roles) s) (sum_below m (λ i. coord xs i c *ℤ coef rs i s))) s u c b
      ∙ numerator_is (role roles s) (pos l) d (coord values s c) (coord wishes s c) (at (shares n roles) s) (sum_below m (λ i. coord xs i c *ℤ coef rs i s)) (at-tab n V s u)

  module _ (weights : (s : ℕ) → s < n → bad_weight (role roles s) ≡ false) where
    pub weighted : Low.Weighted n (pos 12) W V
    weighted s l = weighing (role roles s) (weights s l)

    pub shares-≥0 : (s : ℕ) → s < n → pos 0 ≤ℤ V s
    shares-≥0 s l = (weighted s l).0

    -- ---- placings that meet all, there and here; kept is what the values over d are
    module _ (kept : Placing) (over_is : d ≡ kept.over) (nums_are : (s : ℕ) → s < n → (c : ℕ) → c < size → coord values s c ≡ coord kept.nums s c) where
      module _ (z : Placing) (M : Meets size n bs roles kept wishes z) where
        pub meets_there : Low.Meets size n m (coef rs) (const rs) z.over (coord z.nums)
        meets_there j l c b = let h = among n roles bs j l in
            subst (λ (r : Bond). sum_below n (λ s. at r.coefs s *ℤ coord z.nums s c) ≡ z.over *ℤ at r.constant c) h.2 (M.relations h.0 h.1 c b)

        pub agrees_there : Low.Agrees size n V d base z.over (coord z.nums)
        agrees_there s l e c b = ⊎_elim
            (λ r. ap (λ x. x *ℤ coord z.nums s c) over_is ∙ M.helds s l r c b ∙ ap (λ x. z.over *ℤ x) (sym (nums_are s l c b))
            ∙ ap (λ x. z.over *ℤ base_of x d (coord values s c) (coord wishes s c)) (sym r))
            (λ r. ap (λ x. d *ℤ x) (M.pulleds s l r c b) ∙ ring (d ∷ z.over ∷ coord wishes s c ∷ []) (v 0 ⊗ (v 1 ⊗ v 2)) (v 1 ⊗ (v 0 ⊗ v 2)) tt
            ∙ ap (λ x. z.over *ℤ base_of x d (coord values s c) (coord wishes s c)) (sym r))
            (fixed_roles (role roles s) (weights s l) e)

      module _ (d>0 : pos 0 <ℤ d) (holds : AllHold size n bs kept) (z : Placing) (shaped : Shaped size n z)
          (meets : Low.Meets size n m (coef rs) (const rs) z.over (coord z.nums)) (agrees : Low.Agrees size n V d base z.over (coord z.nums)) where
        abbrev e : ℤ
        e = z.over

        -- a held parameter's share is 0, and it is at its kept value
        held : (s : ℕ) → s < n → role roles s ≡ Held → (c : ℕ) → c < size → d *ℤ coord z.nums s c ≡ e *ℤ coord kept.nums s c
        held s l r c b = agrees s l (ap share r) c b ∙ ap (λ x. e *ℤ base_of x d (coord values s c) (coord wishes s c)) r ∙ ap (λ x. e *ℤ x) (nums_are s l c b)

        -- a relation that does not count has held parameters alone, and held before
        idle : (b : Bond) → ((s : ℕ) → s < n → (role roles s ≡ Held) ⊎ (at b.coefs s ≡ pos 0)) → (c : ℕ) → c < size
            → sum_below n (λ s. at b.coefs s *ℤ coord kept.nums s c) ≡ kept.over *ℤ at b.constant c → sum_below n (λ s. at b.coefs s *ℤ coord z.nums s c) ≡ e *ℤ at b.constant c
        idle b only c l before = cancel-* d (sum_below n (λ s. at b.coefs s *ℤ coord z.nums s c)) (e *ℤ at b.constant c) d>0
            (sym (sum_scale n d (λ s. at b.coefs s *ℤ coord z.nums s c))
            ∙ sum_ext n (λ s u. ⊎_elim
            (λ r. ring (d ∷ at b.coefs s ∷ coord z.nums s c ∷ []) (v 0 ⊗ (v 1 ⊗ v 2)) (v 1 ⊗ (v 0 ⊗ v 2)) tt ∙ ap (λ x. at b.coefs s *ℤ x) (held s u r c l)
            ∙ ring (at b.coefs s ∷ e ∷ coord kept.nums s c ∷ []) (v 0 ⊗ (v 1 ⊗ v 2)) (v 1 ⊗ (v 0 ⊗ v 2)) tt)
            (λ r. ap (λ x. d *ℤ (x *ℤ coord z.nums s c)) r ∙ ring (d ∷ coord z.nums s c ∷ e ∷ coord kept.nums s c ∷ []) (v 0 ⊗ (k (pos 0) ⊗ v 1)) (v 2 ⊗ (k (pos 0) ⊗ v 3)) tt
            ∙ ap (λ x. e *ℤ (x *ℤ coord kept.nums s c)) (sym r))
            (only s u))
            ∙ sum_scale n e (λ s. at b.coefs s *ℤ coord kept.nums s c) ∙ ap (λ x. e *ℤ x) (before ∙ ap (λ x. x *ℤ at b.constant c) (sym over_is))
            ∙ ring (e ∷ d ∷ at b.constant c ∷ []) (v 0 ⊗ (v 1 ⊗ v 2)) (v 1 ⊗ (v 0 ⊗ v 2)) tt)

        pub meets_here : Meets size n bs roles kept wishes z
        meets_here = record {
          shaped = shaped;
          relations = λ i u c l. ⊎_elim
              (λ h. subst (λ (r : Bond). sum_below n (λ s. at r.coefs s *ℤ coord z.nums s c) ≡ e *ℤ at r.constant c) h.2 (meets h.0 h.1 c l))
              (λ h. idle (get_or bs i no_bond) (idle_at n roles (get_or bs i no_bond) h) c l (holds i u c l))
              (counts_or_not n roles bs i u);
          helds = λ s l r c b. ap (λ x. x *ℤ coord z.nums s c) (sym over_is) ∙ held s l r c b;
          pulleds = λ s l r c b. cancel-* d (coord z.nums s c) (e *ℤ coord wishes s c) d>0
              (agrees s l (ap share r) c b ∙ ap (λ x. e *ℤ base_of x d (coord values s c) (coord wishes s c)) r ∙ ring (e ∷ d ∷ coord wishes s c ∷ []) (v 0 ⊗ (v 1 ⊗ v 2)) (v 1 ⊗ (v 0 ⊗ v 2)) tt);
        }

  -- ---- the cost there is d² times the cost here
  module _ (inner : Coords → Coords → ℤ) (P : InnerProduct size inner) where
    cost_is : (z : Placing) → Low.cost size inner n W d base z.over (coord z.nums) ≡ d *ℤ d *ℤ cost size inner n roles wishes z
    cost_is z = total_scale size inner P n W d (λ s c. d *ℤ coord z.nums s c -ℤ z.over *ℤ base s c) (λ s c. coord z.nums s c -ℤ z.over *ℤ coord wishes s c)
        (λ s l. pick s (role roles s))
      where
        pick : (s : ℕ) (r : Role) → (weight_of r ≡ pos 0) ⊎ ((c : ℕ) → c < size → d *ℤ coord z.nums s c -ℤ z.over *ℤ base_of r d (coord values s c) (coord wishes s c) ≡ d *ℤ (coord z.nums s c -ℤ z.over *ℤ coord wishes s c))
        pick s Held = inl refl
        pick s Pulled = inl refl
        pick s (Loose x) = inr (λ c b. ring (d ∷ coord z.nums s c ∷ z.over ∷ coord wishes s c ∷ []) (v 0 ⊗ v 1 ⊖ v 2 ⊗ (v 0 ⊗ v 3)) (v 0 ⊗ (v 1 ⊖ v 2 ⊗ v 3)) tt)

    pub nearer_here : pos 0 <ℤ d → (p z : Placing)
        → (z.over *ℤ z.over *ℤ Low.cost size inner n W d base p.over (coord p.nums)) <ℤ (p.over *ℤ p.over *ℤ Low.cost size inner n W d base z.over (coord z.nums))
        → Nearer size inner n roles wishes p z
    nearer_here d>0 p z l = cancel-< (d *ℤ d) (z.over *ℤ z.over *ℤ cost size inner n roles wishes p) (p.over *ℤ p.over *ℤ cost size inner n roles wishes z) (*->0 d d d>0 d>0)
        (subst (λ x. x <ℤ (d *ℤ d *ℤ (p.over *ℤ p.over *ℤ cost size inner n roles wishes z))) (moved z.over p) (subst (λ x. (z.over *ℤ z.over *ℤ Low.cost size inner n W d base p.over (coord p.nums)) <ℤ x) (moved p.over z) l))
      where
        moved : (e : ℤ) (q : Placing) → e *ℤ e *ℤ Low.cost size inner n W d base q.over (coord q.nums) ≡ d *ℤ d *ℤ (e *ℤ e *ℤ cost size inner n roles wishes q)
        moved e q = ap (λ x. e *ℤ e *ℤ x) (cost_is q) ∙ ring (e ∷ d ∷ cost size inner n roles wishes q ∷ []) (v 0 ⊗ v 0 ⊗ (v 1 ⊗ v 1 ⊗ v 2)) (v 1 ⊗ v 1 ⊗ (v 0 ⊗ v 0 ⊗ v 2)) tt
