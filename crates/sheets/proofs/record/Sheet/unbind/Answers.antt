use Rattle.std.proofs.Common.{◌≡◌, ℕ, ◌+◌, ◌-◌, ◌<◌, Bool, true, false, T, List, map, drop, ℤ, pos, nat_abs, ◌≤ℤ◌, sym, refl, ap, ◌∙◌, ap₂, arith, w64, to_z, of_z}
use borrow.Author.Differences.{ints}
use lib.Seq.{paste}
use lib.Signed.{lt_z, le_z}
use Rattle.std.proofs.lemmas.Int.{to_z-of_z, to_z_pos, by_lt_z}
use Rattle.std.proofs.lemmas.List.{drop-map}
use Rattle.rules.specs.Calls.{closed}
use Rattle.sheets.specs.Shown.{numbers}
use Rattle.sheets.proofs.Fit.{long, map-paste}
use Rattle.sheets.proofs.record.Sheet.unbind.Goals as goal

pub copy_within-requires-2 : goal.copy_within-requires-2
copy_within-requires-2 g c =
    let t = long g.K.Kind.coords g.K.Kind.size (numbers c.args.self.now) c.args.values.now c.args.relations.now c.args.constants.now (sym c.if-unfit.ensures) in
    let low = c.if-number-lt0.false in
    let high = c.if-number-b.false in
    let bound = to_z_pos w64 c.args.self.now.bound (omega (arith, c.args.self.now.room)) in
    let below : nat_abs (to_z w64 (of_z w64 c.args.number)) < c.args.self.now.bound = omega (arith, ints, bound) in
    record { start_le_end = omega (arith, below); in_bounds = omega (arith, t.constants_long, c.args.self.now.room); dest_in_bounds = omega (arith, below, t.constants_long, c.args.self.now.room); not_exhausted = tt }

-- a number that is not at least k is below it
below : (x : ℤ) (k : ℕ) → le_z (pos k) x ≡ false → lt_z x (pos k) ≡ true
below x k h = by_lt_z x (pos k) (λ l. T_true (lt_z x (pos k)) l.lt) (λ l. absurd (clash l))
  where
    T_true : (b : Bool) → T b → b ≡ true
    T_true true t = refl
    T_true false t = absurd t

    clash : pos k ≤ℤ x → ⊥
    clash l = omega (arith, ints)

pub returns : goal.returns
returns g c =
    let f = g.K.Kind.coords in
    let n = c.args.number in
    let b = c.args.self.now.bound in
    let qs = c.args.constants.now in
    let fine = sym c.if-unfit.ensures in
    let read = to_z-of_z w64 n c.ranges.number in
    let bound = to_z_pos w64 b (omega (arith, c.args.self.now.room)) in
    let low : lt_z n (pos 0) ≡ false = ap (λ (z : ℤ). lt_z z (pos 0)) (sym read) ∙ c.if-number-lt0.false in
    let high : lt_z n (pos b) ≡ true = below n b (ap₂ le_z (sym bound) (sym read) ∙ c.if-number-b.false) in
    let relations = c.copy_within.ensures.after ∙ ap (λ (z : ℤ). closed b (nat_abs z) c.args.relations.now) read in
    let constants = ap (map f) (c.copy_within-2.ensures.after ∙ ap (λ (z : ℤ). closed b (nat_abs z) qs) read)
    ∙ map-paste f qs (nat_abs n) (drop (nat_abs n + 1) qs) (b - (nat_abs n + 1)) ∙ ap (λ (l : List (List ℤ)). paste (map f qs) (nat_abs n) l (b - (nat_abs n + 1))) (sym (drop-map f (nat_abs n + 1) qs)) in
    rw (fine, low, high, relations, constants)
