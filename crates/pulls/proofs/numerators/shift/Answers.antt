use Rattle.std.proofs.Common.{◌≡◌, ℕ, ◌<◌, ◌≤◌, [], map, length, get_or, ℤ, ◌*ℤ◌, nat_abs, sym, ap, ◌∙◌, arith, w64, SFits, rules}
use Rattle.std.proofs.lemmas.List.{get_or-map}
use Rattle.std.proofs.lemmas.Int.{to_z-of_z}
use Rattle.whole.specs.Lists.{at, coord}
use Rattle.whole.specs.Sums.{sum_below}
use Rattle.whole.proofs.Tests.{any_false, above_false}
use Rattle.rules.specs.Sheets.{relation_at}
use Rattle.workings.specs.Shown.{shown}
use Rattle.fractions.specs.Steps.{plus}
use Rattle.fractions.proofs.Placed.{tabbed}
use Rattle.fractions.proofs.Zeros.{zero_at}
use Rattle.residuals.proofs.Carrying.{no_sum, more}
use Rattle.pulls.proofs.numerators.shift.Goals as goal

pub loop-i-init : goal.loop-i-init
loop-i-init g c = λ k l. zero_at g.K.Kind.size _ c.zero-sum.ensures k ∙ no_sum _

pub loop-i-preserved : goal.loop-i-preserved
loop-i-preserved g c =
    let f = g.K.Kind.coords in
    let i = c.loop-i.i in
    let s = c.args.s in
    let t = c.args.task.now in
    let rs = t.relations.now in
    let rows = t.rows.now in
    let xs = c.args.multipliers.now in
    let below : i < length rows = c.loop-i-test.true in
    let factors : ℕ → ℤ = λ k. at (relation_at rs (get_or rows k 0)).coefficients s in
    let x = f c.index-multipliers-i.result in
    let is = ap f c.index-multipliers-i.is ∙ sym (get_or-map f xs i c.index-multipliers-i.result [] (omega (arith, below, c.requires.long))) in
    let read : SFits w64 (factors i) = search rules in
    let small : (j : ℕ) → j < length rows → nat_abs (factors j) ≤ 1000 = λ j h. above_false 1000 (factors j) (any_false (shown t.workings.now).count _ (t.fine.small j h) s c.requires.place) in
    more g.K.Kind.size (length rows) 1000 1000000000000 12000000000000000 factors (map f xs) (omega (arith, t.many, t.workings.now.few)) (omega arith) small c.requires.limited
    i below (f c.loop-i.sum) (f c.add-sum.result) x (g.met.K.Kind.laws.sized c.loop-i.sum) is
    (c.add-sum.ensures ∙ ap (λ (z : ℤ). plus (f c.loop-i.sum) z x) (to_z-of_z w64 (factors i) read)) c.loop-i.invariant

pub returns : goal.returns
returns g c =
    let f = g.K.Kind.coords in
    let t = c.args.task.now in
    let rows = t.rows.now in
    let xs = c.args.multipliers.now in
    let all : c.loop-i.i ≡ length rows = omega (arith, c.loop-i-test.false, c.loop-i.auto.i-end) in
    tabbed g.K.Kind.size (f c.loop-i.sum) _ (g.met.K.Kind.laws.sized c.loop-i.sum)
    (λ k l. c.loop-i.invariant k l ∙ ap (λ (n : ℕ). sum_below n (λ i. at (relation_at t.relations.now (get_or rows i 0)).coefficients c.args.s *ℤ coord (map f xs) i k)) all)
