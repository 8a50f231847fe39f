use Rattle.std.proofs.Common.{◌≡◌, ℕ, [], map, length, get_or, ℤ, pos, sym, ap, ◌∙◌, arith, w64, SFits, to_z, of_z, rules}
use Rattle.std.proofs.lemmas.List.{get_or-map, length_push}
use Rattle.std.proofs.lemmas.Slice.Zip.{zip_turn, zip_end}
use Rattle.std.proofs.lemmas.Int.{to_z-of_z}
use Rattle.whole.specs.Lists.{at}
use Rattle.fractions.specs.Steps.{plus}
use Rattle.residuals.specs.Steps.{carried_at}
use Rattle.fractions.proofs.Placed.{tabbed}
use Rattle.fractions.proofs.Zeros.{zero_at}
use Rattle.residuals.proofs.Carrying.{no_sum, more}
use Rattle.residuals.proofs.residual.carried.Goals as goal

pub loop-number-init : goal.loop-number-init
loop-number-init g c = λ k l. zero_at g.K.Kind.size _ c.zero-sum.ensures k ∙ no_sum _

pub loop-number-preserved : goal.loop-number-preserved
loop-number-preserved g c =
    let f = g.K.Kind.coords in
    let ys = c.loop-number.yielded in
    let j = length ys in
    let row = c.args.row.now in
    let xs = c.args.residuals.now in
    let turn = zip_turn row xs ys c.into_iter-number-iterator.result c.loop-number.number-iterator c.next.new.self c.next.result (cc) (cc) c.loop-number.yielded_by (c.in-Some.number, c.in-Some.residual) c.in-Some.is c.next.ensures.steps in
    let a = turn.2 (pos 0) in
    let fits : SFits w64 (get_or row j (pos 0)) = search rules in
    let x = ap f (turn.3 c.in-Some.residual.now) ∙ sym (get_or-map f xs j c.in-Some.residual.now [] turn.1) in
    let factor = ap (λ (z : ℤ). to_z w64 (of_z w64 z)) a ∙ to_z-of_z w64 (get_or row j (pos 0)) fits in
    λ k h. more g.K.Kind.size (length row) 2147483647 300000000 7800000000000000000 (λ i. at row i) (map f xs) (omega (arith, c.requires.few)) (omega arith) (λ i _. c.requires.limited i) c.requires.small
    j turn.0 (f c.loop-number.sum) (f c.add-sum.result) (f c.in-Some.residual.now) (g.met.K.Kind.laws.sized c.loop-number.sum) x
    (c.add-sum.ensures ∙ ap (λ (z : ℤ). plus (f c.loop-number.sum) z (f c.in-Some.residual.now)) factor) c.loop-number.invariant k h
    ∙ ap (λ (n : ℕ). carried_at n row (map f xs) k) (sym (length_push ys (c.in-Some.number, c.in-Some.residual)))

pub returns : goal.returns
returns g c =
    let f = g.K.Kind.coords in
    let row = c.args.row.now in
    let xs = c.args.residuals.now in
    let end = zip_end row xs c.loop-number.yielded c.into_iter-number-iterator.result c.loop-number.number-iterator c.next.new.self c.next.result (cc) (cc) c.loop-number.yielded_by c.in-None.is c.next.ensures.steps in
    let all : length c.loop-number.yielded ≡ length row = omega (arith, c.requires.long) in
    tabbed g.K.Kind.size (f c.loop-number.sum) _ (g.met.K.Kind.laws.sized c.loop-number.sum)
    (λ k l. c.loop-number.invariant k l ∙ ap (λ (n : ℕ). carried_at n row (map f xs) k) all)
