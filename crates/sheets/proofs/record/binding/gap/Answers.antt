use Rattle.std.proofs.Common.{◌≡◌, ℕ, ◌<◌, ◌≤◌, ◌+◌, ◌*◌, cond, [], ◌∷◌, ◌++◌, map, length, get_or, take, ℤ, pos, ◌+ℤ◌, ◌-ℤ◌, ◌*ℤ◌, neg_ℤ, nat_abs, sym, ap, ◌∙◌, ap₂, arith, w64, SFits, to_z, of_z, get_or-take, length-append, subst}
use borrow.Author.Differences.{ints}
use Rattle.std.proofs.lemmas.Int.{to_z-of_z}
use Rattle.std.proofs.lemmas.List.{get_or-map, length-take-le}
use Rattle.whole.specs.Lists.{at, coord}
use Rattle.whole.specs.Sums.{sum_below}
use Rattle.std.proofs.lemmas.Slice.Zip.{zip_turn, zip_end}
use Rattle.whole.proofs.Sizes.{fits}
use Rattle.whole.proofs.Tests.{any_false, above_false}
use Rattle.kinds.specs.Coords.{plus_scaled}
use Rattle.kinds.specs.Outcomes.{all_fit}
use Rattle.sheets.proofs.Fit.{fit_values}
use Rattle.sheets.proofs.Gaps.{term, start-at, start-size, more_at, more_size, sum-none}
use Rattle.sheets.proofs.Combining.{Within}
use Rattle.sheets.proofs.record.binding.gap.Goals as goal

-- the first factor, as code has it
minus : (d : ℤ) → SFits w64 d → nat_abs d ≤ 45000 → to_z w64 (of_z w64 (pos 0 -ℤ to_z w64 (of_z w64 d))) ≡ neg_ℤ d
minus d f h =
    ap (λ (z : ℤ). to_z w64 (of_z w64 (pos 0 -ℤ z))) (to_z-of_z w64 d f) ∙ to_z-of_z w64 (pos 0 -ℤ d) (omega (arith, ints)) ∙ less
  where
    less : pos 0 -ℤ d ≡ neg_ℤ d
    less = omega (arith, ints)

pub loop-k-init : goal.loop-k-init
loop-k-init g c =
    let f = g.K.Kind.coords in
    let size = g.K.Kind.size in
    let q = f c.args.q in
    let fit = fit_values size c.args.n c.args.d (map f c.args.values.now) c.requires.values in
    let sized = g.met.K.Kind.laws.sized c.args.q in
    let small : (k : ℕ) → k < size → nat_abs (at q k) ≤ 47560000 = λ k l. above_false 47560000 (at q k) (any_false size _ c.requires.constant k l) in
    let is = c.combine-sum.ensures ∙ ap (λ (z : ℤ). cond (all_fit (f c.zero.result) z q) (plus_scaled (f c.zero.result) z q) (f c.zero.result)) (minus c.args.d c.ranges.d fit.high) in
    (λ k. sum-none _ _, start-size size c.args.d q (f c.zero.result) (f c.combine-sum.result) sized fit.high small c.zero.ensures is)

pub loop-k-preserved : goal.loop-k-preserved
loop-k-preserved g c =
    let f = g.K.Kind.coords in
    let size = g.K.Kind.size in
    let s = length c.loop-k.yielded in
    let vs = map f c.args.values.now in
    let cs = c.args.coefficients.now in
    let at_turn = zip_turn (take c.args.n cs) c.args.values.now c.loop-k.yielded c.into_iter-k-iterator.result c.loop-k.k-iterator c.next.new.self c.next.result (cc) (cc) c.loop-k.yielded_by (c.in-Some.k, c.in-Some.v) c.in-Some.is c.next.ensures.steps in
    let fit = fit_values size c.args.n c.args.d vs c.requires.values in
    let n = length-take-le c.args.n cs c.requires.long in
    let below : s < c.args.n = omega (arith, at_turn.0) in
    let few : s < 48 = omega (arith, c.requires.few) in
    let k = c.in-Some.k.now in
    let v = c.in-Some.v.now in
    let coefficient = above_false 1000 (at cs s) (any_false c.args.n _ c.requires.small s below) in
    let read : SFits w64 (at cs s) = fits (at cs s) (omega (arith, coefficient)) in
    let reading : to_z w64 (of_z w64 k) ≡ at cs s = ap (λ (z : ℤ). to_z w64 (of_z w64 z)) (at_turn.2 (pos 0) ∙ get_or-take c.args.n cs s (pos 0) below) ∙ to_z-of_z w64 (get_or cs s (pos 0)) read in
    let value = ap f (at_turn.3 v) ∙ sym (get_or-map f c.args.values.now s v [] at_turn.1) in
    let sized = g.met.K.Kind.laws.sized in
    let same = sized c.loop-k.sum ∙ sym (sized v) in
    let small : (k : ℕ) → k < size → nat_abs (coord vs s k) ≤ 2140200000 = λ k l. let a = fit.small s below k l in omega (arith, fit.high) in
    let base : ℕ → ℤ = λ k. at (f c.combine-sum.result) k in
    let long : length (c.loop-k.yielded ++ ((c.in-Some.k, c.in-Some.v) ∷ [])) ≡ s + 1 = length-append c.loop-k.yielded _ in (
      λ k. more_at size s base vs cs (f c.loop-k.sum) (f v) (f c.combine-sum-in-loop-k.result) _ few reading value same (sized _) coefficient small c.loop-k.invariant.0 c.loop-k.invariant.1 c.combine-sum-in-loop-k.ensures k
          ∙ ap (λ (m : ℕ). base k +ℤ sum_below m (λ p. at cs p *ℤ coord vs p k)) (sym long),
      subst (λ (m : ℕ). Within (term * (m + 1)) (f c.combine-sum-in-loop-k.result)) (sym long) (more_size size s base vs cs (f c.loop-k.sum) (f v) (f c.combine-sum-in-loop-k.result) _ few reading value same (sized _) coefficient small c.loop-k.invariant.0 c.loop-k.invariant.1 c.combine-sum-in-loop-k.ensures),
    )

pub returns : goal.returns
returns g c =
    let f = g.K.Kind.coords in
    let size = g.K.Kind.size in
    let q = f c.args.q in
    let vs = map f c.args.values.now in
    let cs = c.args.coefficients.now in
    let fit = fit_values size c.args.n c.args.d vs c.requires.values in
    let sized = g.met.K.Kind.laws.sized c.args.q in
    let small : (k : ℕ) → k < size → nat_abs (at q k) ≤ 47560000 = λ k l. above_false 47560000 (at q k) (any_false size _ c.requires.constant k l) in
    let is = c.combine-sum.ensures ∙ ap (λ (z : ℤ). cond (all_fit (f c.zero.result) z q) (plus_scaled (f c.zero.result) z q) (f c.zero.result)) (minus c.args.d c.ranges.d fit.high) in
    let n = length-take-le c.args.n cs c.requires.long in
    let stop = zip_end (take c.args.n cs) c.args.values.now c.loop-k.yielded c.into_iter-k-iterator.result c.loop-k.k-iterator c.next.new.self c.next.result (cc) (cc) c.loop-k.yielded_by c.in-None.is c.next.ensures.steps in
    let end : length c.loop-k.yielded ≡ c.args.n = omega (arith, c.requires.room) in
    λ k. c.loop-k.invariant.0 k ∙ ap₂ (λ (z : ℤ) (n : ℕ). z +ℤ sum_below n (λ p. at cs p *ℤ coord vs p k)) (start-at size c.args.d q (f c.zero.result) (f c.combine-sum.result) sized fit.high small c.zero.ensures is k) end
