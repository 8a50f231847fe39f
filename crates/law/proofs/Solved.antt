-- The answer of a pull whose lists and workings fit: refused with 13 where no placing meets all, and else the nearest one, or another refusal.
use Rattle.std.proofs.Common.{◌≡◌, ℕ, ◌<◌, Bool, true, false, ◌≢◌, ◌⊎◌, List, [], ◌∷◌, length, ℤ, pos, ◌+ℤ◌, ◌*ℤ◌, ◌<ℤ◌, Ok, Err, Result, sym, refl, ap, ◌∙◌, subst, inl, inr, arith}
use lib.Signed.{quot_z, lt_z}
use borrow.Author.Differences.{ints}
use Rattle.whole.specs.Lists.{tab, coord}
use Rattle.whole.proofs.Integers.{*->0, not_both, >0-by}
use Rattle.whole.proofs.Lists.{tab-length, get_or-tab}
use Rattle.whole.proofs.Ring.{v, k, ◌⊕◌, ◌⊗◌, ring}
use Rattle.linear.specs.Gram.{comb}
use Rattle.linear.specs.Elimination.{Grid}
use Rattle.linear.specs.Meaning.{Meaning}
use Rattle.linear.specs.Products.{InnerProduct}
use Rattle.linear.specs.Placings as Low
use Rattle.linear.proofs.Outcomes.{passed, not_by}
use Rattle.linear.proofs.Solving.{infeasible, placed-meets}
use Rattle.linear.proofs.Nearest.{nearest}
use Rattle.linear.proofs.Lowest as Reduced
use Rattle.records.specs.Outcomes.{guard}
use Rattle.records.specs.declared.refusal.Refusal.{Refusal}
use Rattle.records.specs.declared.refusal.Refusal.TheVariants.{WishTooFar, GapTooLarge, Impossible, TooFine, OffSheet}
use Rattle.records.specs.declared.role.Role.{Role}
use Rattle.rules.specs.Limits.{most_denominator, most_residual}
use Rattle.rules.specs.Values.{Coords, grid}
use Rattle.rules.specs.Sheets.{Bond, bad_values}
use Rattle.rules.specs.Gripping.{role, coef, counted, share, shares, bad_weight}
use Rattle.rules.specs.Pulling.{Placing, const, far_wish, residuals, carried, contradicts, lowered_sums, numerators, lowest, some_above, too_fine, settled, solved, proposed}
use Rattle.law.specs.Placings.{Shaped, Same, AllHold, Meets, Nearer}
use Rattle.law.proofs.Divided as Divided
use Rattle.law.proofs.Divided.{coord-grid, over-exact, coord-exact, h-above}
use Rattle.law.proofs.Multipliers as Multipliers
use Rattle.law.proofs.Multipliers.{hs, l, xs, l_above, loud}
use Rattle.law.proofs.Refusals.{solved_refusals}
use Rattle.law.proofs.Offers.{V, W, base, lack, carried_is, numerators_are, weighted, shares-≥0, meets_there, agrees_there, meets_here, nearer_here}

pub grid-shaped : (size n : ℕ) (e : ℤ) (f : ℕ → ℕ → ℤ) → pos 0 <ℤ e → Shaped size n (record { over = e; nums = grid n size f })
grid-shaped size n e f h = record {
  above = h;
  values = tab-length n (λ s. tab size (f s));
  coordinates = λ s u. ap (λ (x : Coords). length x) (get_or-tab n (λ s. tab size (f s)) [] s u) ∙ tab-length size (f s);
}

module _ (size n : ℕ) (roles : List Role) (bs : List Bond) (t : Grid) (d : ℤ) (values wishes : List Coords) (kept : Placing)
    (weights : (s : ℕ) → s < n → bad_weight (role roles s) ≡ false)
    (M : Meaning n (length (counted n roles bs)) (λ s. share (role roles s)) (coef (counted n roles bs)) t)
    (over_is : d ≡ kept.over) (nums_are : (s : ℕ) → s < n → (c : ℕ) → c < size → coord values s c ≡ coord kept.nums s c)
    (d>0 : pos 0 <ℤ d) (holds : AllHold size n bs kept) where
  abbrev rs : List Bond
  rs = counted n roles bs

  abbrev m : ℕ
  m = length rs

  abbrev cs : List Coords
  cs = residuals size n roles rs d values wishes

  abbrev gs : List Coords
  gs = carried size m t cs

  abbrev pub answer : Result Placing Refusal
  answer = proposed size n roles (shares n roles) rs t d values wishes

  abbrev rest : Result Placing Refusal
  rest = solved size n roles (shares n roles) rs t d values wishes gs

  abbrev MeetsThese : Placing → Type 0
  MeetsThese z = Meets size n bs roles kept wishes z

  -- ---- a spare row that carries something: nothing meets all
  thirteen : contradicts size m t gs ≡ true → (z : Placing) → ¬ (MeetsThese z)
  thirteen e z Z =
      let a = loud size m t gs e in
      infeasible size n m (V size n roles bs d values wishes) (coef rs) (const rs) t d (base size n roles bs d values wishes) (shares-≥0 size n roles bs d values wishes weights) M
      a.0 a.1 a.2 a.3.0 a.3.1 (λ q. a.3.2 (carried_is size n roles bs d values wishes t a.0 a.1 a.3.0 a.3.1 ∙ q))
      z.over (coord z.nums) (not_both z.over Z.shaped.above)
      (agrees_there size n roles bs d values wishes weights kept over_is nums_are z Z) (meets_there size n roles bs d values wishes weights kept over_is nums_are z Z)

  -- ---- none does: the multipliers give a placing that meets all
  module _ (e : contradicts size m t gs ≡ false) where
    abbrev f : ℤ
    f = pos (l size m t gs)

    abbrev X : ℕ → ℕ → ℤ
    X i c = coord (xs size m t gs) i c

    abbrev B : ℕ → ℕ → ℤ
    B = base size n roles bs d values wishes

    abbrev v' : ℕ → ℤ
    v' = V size n roles bs d values wishes

    abbrev placed : ℕ → ℕ → ℤ
    placed = Low.placed m v' (coef rs) f B X

    solves : Low.Multipliers size m t (Low.carried m t (lack size n roles bs d values wishes)) f X
    solves = Multipliers.solved size m t gs M.diagonal e (Low.carried m t (lack size n roles bs d values wishes)) (carried_is size n roles bs d values wishes t)

    f>0 : pos 0 <ℤ (f *ℤ d)
    f>0 = *->0 f d (l_above size m t gs) d>0

    meets : Low.Meets size n m (coef rs) (const rs) (f *ℤ d) placed
    meets = placed-meets size n m v' (coef rs) (const rs) t d f B X M solves

    agrees : Low.Agrees size n v' d B (f *ℤ d) placed
    agrees s u q c b = ap (λ x. d *ℤ (f *ℤ B s c +ℤ x *ℤ comb m (coef rs) (λ i. X i c) s)) q
        ∙ ring (d ∷ f ∷ B s c ∷ comb m (coef rs) (λ i. X i c) s ∷ []) (v 0 ⊗ (v 1 ⊗ v 2 ⊕ k (pos 0) ⊗ v 3)) (v 1 ⊗ v 0 ⊗ v 2) tt

    -- the numerators, and in lowest terms
    abbrev nums : List Coords
    nums = numerators size n roles (shares n roles) rs (l size m t gs) d values wishes (xs size m t gs)

    abbrev H : ℕ
    H = Divided.h (f *ℤ d) nums

    abbrev p : Placing
    p = lowest size n (f *ℤ d) nums

    H>0 : pos 0 <ℤ pos H
    H>0 = h-above (f *ℤ d) nums f>0

    scaled : Low.Scaled size n (pos H) p.over (coord p.nums) (f *ℤ d) placed
    scaled = (
      over-exact (f *ℤ d) nums,
      λ s u c b. ap (λ x. pos H *ℤ x) (coord-grid n size (λ s c. quot_z (coord nums s c) (pos H)) s u c b) ∙ coord-exact (f *ℤ d) nums s c
          ∙ numerators_are size n roles bs d values wishes (l size m t gs) (xs size m t gs) s u c b,
    )

    p>0 : pos 0 <ℤ p.over
    p>0 = >0-by (pos H) p.over H>0 (subst (λ x. pos 0 <ℤ x) (sym scaled.0) f>0)

    pub p_meets : MeetsThese p
    p_meets = meets_here size n roles bs d values wishes weights kept over_is nums_are d>0 holds p (grid-shaped size n p.over (λ s c. quot_z (coord nums s c) (pos H)) p>0)
        (Reduced.meets_back size n (pos H) H>0 p.over (f *ℤ d) (coord p.nums) placed scaled m (coef rs) (const rs) meets)
        (Reduced.agrees_back size n (pos H) H>0 p.over (f *ℤ d) (coord p.nums) placed scaled v' d B agrees)

    twelve : pos 12 ≢ pos 0
    twelve q = omega (arith, ints)

    pub p_nearest : (inner : Coords → Coords → ℤ) → InnerProduct size inner → (z : Placing) → MeetsThese z → ¬ (Same size n p z) → Nearer size inner n roles wishes p z
    p_nearest inner P z Z other =
        let N = nearest size inner n m (pos 12) (W size n roles bs d values wishes) v' (coef rs) (const rs) t d f B X P twelve (weighted size n roles bs d values wishes weights) (not_both d d>0) M solves in
        let L = Reduced.lowest size inner n m (W size n roles bs d values wishes) v' (coef rs) (const rs) d B (pos H) p.over (f *ℤ d) (coord p.nums) placed P H>0 scaled N in
        nearer_here size n roles bs d values wishes inner P d>0 p z (L.strictly z.over (coord z.nums)
        (meets_there size n roles bs d values wishes weights kept over_is nums_are z Z) (agrees_there size n roles bs d values wishes weights kept over_is nums_are z Z) other)

    -- an accepted answer is that placing, within its limits
    pub accepted_rest : (q : Placing) → rest ≡ Ok q → (p ≡ q) × (lt_z (pos most_denominator) q.over ≡ false) × (bad_values size n q.over q.nums ≡ false)
    accepted_rest q a =
        let b = passed (too_fine size m t (l size m t gs) (lowered_sums size m gs (hs size m t gs)) (xs size m t gs)) TooFine (settled size n p) q a in
        let c = passed (lt_z (pos most_denominator) p.over) TooFine (guard (bad_values size n p.over p.nums) OffSheet (Ok p)) q b.1 in
        let g = passed (bad_values size n p.over p.nums) OffSheet (Ok p) q c.1 in
        same g.1 c.0 g.0
      where
        same : ◌≡◌ {A = Result Placing Refusal} (Ok p) (Ok q) → lt_z (pos most_denominator) p.over ≡ false → bad_values size n p.over p.nums ≡ false
            → (p ≡ q) × (lt_z (pos most_denominator) q.over ≡ false) × (bad_values size n q.over q.nums ≡ false)
        same h a b = let w : p ≡ q = cc in (w, subst (λ (x : Placing). lt_z (pos most_denominator) x.over ≡ false) w a, subst (λ (x : Placing). bad_values size n x.over x.nums ≡ false) w b)

  -- ---- the whole answer
  -- not refused for its wishes or its residuals, it is refused with 13 and nothing meets all, or it is not and something does
  pub judged : answer ≢ Err WishTooFar → answer ≢ Err GapTooLarge
      → ((answer ≡ Err Impossible) × ((z : Placing) → ¬ (MeetsThese z))) ⊎ ((answer ≢ Err Impossible) × ((z : Placing) × MeetsThese z))
  judged d11 d12 =
      let a = not_by (far_wish size n roles wishes) WishTooFar (guard (some_above most_residual size m cs) GapTooLarge (guard (contradicts size m t gs) Impossible rest)) d11 in
      let b = not_by (some_above most_residual size m cs) GapTooLarge (guard (contradicts size m t gs) Impossible rest) (λ e. d12 (a.1 ∙ e)) in
      by (contradicts size m t gs) refl (a.1 ∙ b.1)
    where
      by : (x : Bool) → contradicts size m t gs ≡ x → answer ≡ guard x Impossible rest
          → ((answer ≡ Err Impossible) × ((z : Placing) → ¬ (MeetsThese z))) ⊎ ((answer ≢ Err Impossible) × ((z : Placing) × MeetsThese z))
      by true e q = inl (q, thirteen e)
      by false e q = inr ((λ h. solved_refusals Impossible size n roles (shares n roles) rs t d values wishes gs (λ x a b c. omega arith) (sym q ∙ h)), (p e, p_meets e))

  -- an accepted proposal is the nearest placing that meets all, within its limits
  pub record Accepted (q : Placing) : Type 0 where
    pub meets_all : MeetsThese q
    pub is_nearest : (inner : Coords → Coords → ℤ) → InnerProduct size inner → (z : Placing) → MeetsThese z → ¬ (Same size n q z) → Nearer size inner n roles wishes q z
    pub low : lt_z (pos most_denominator) q.over ≡ false
    pub inside : bad_values size n q.over q.nums ≡ false

  pub accepted-answer : (q : Placing) → answer ≡ Ok q → Accepted q
  accepted-answer q h =
      let a = passed (far_wish size n roles wishes) WishTooFar (guard (some_above most_residual size m cs) GapTooLarge (guard (contradicts size m t gs) Impossible rest)) q h in
      let b = passed (some_above most_residual size m cs) GapTooLarge (guard (contradicts size m t gs) Impossible rest) q a.1 in
      let c = passed (contradicts size m t gs) Impossible rest q b.1 in
      let g = accepted_rest c.0 q c.1 in
      record {
        meets_all = subst MeetsThese g.0 (p_meets c.0);
        is_nearest = subst (λ (q : Placing). (inner : Coords → Coords → ℤ) → InnerProduct size inner → (z : Placing) → MeetsThese z → ¬ (Same size n q z) → Nearer size inner n roles wishes q z) g.0 (p_nearest c.0);
        low = g.1;
        inside = g.2;
      }
