use Rattle.std.proofs.Common.{◌≡◌, ℕ, ◌<◌, List, [], map, length, get_or, set, ℤ, Ok, Err, Result, sym, ap, ◌∙◌, arith, rules, below_more}
use Rattle.std.proofs.lemmas.List.{length-map, get_or-map, set-get_or}
use Rattle.records.specs.declared.refusal.Refusal.{Refusal}
use Rattle.records.specs.declared.refusal.Refusal.TheVariants.{TooFine}
use Rattle.records.specs.Outcomes.{guard, image}
use Rattle.whole.specs.Lists.{tab}
use Rattle.whole.proofs.Lists.{tab-length, get_or-tab}
use Rattle.sheets.proofs.Writing.{written_more, written_all}
use Rattle.fractions.specs.Multiple.{strays, multiplied}
use Rattle.fractions.proofs.Placed.{written_past}
use Rattle.fractions.proofs.Refusing.{guard_ok, guard_err}
use Rattle.fractions.proofs.Multiplied.{stops, ends}
use Rattle.fractions.proofs.multiple.Multiple.multiply.Goals as goal

pub returns-in_err-sum : goal.returns-in_err-sum
returns-in_err-sum g c =
    let f = g.K.Kind.coords in
    let size = g.K.Kind.size in
    let i = c.loop-i.i in
    let ps = c.args.numbers.now in
    let us = map f c.args.sums.now in
    let F : ℕ → List ℤ = λ k. multiplied size c.args.self.l (get_or ps k 0) (get_or us k []) in
    let same : length ps ≡ length us = c.if-numbers-sums.false ∙ sym (length-map c.args.sums.now f) in
    let below : i < length ps = omega (arith, c.loop-i-test.true, c.if-numbers-sums.false) in
    let l = length-map c.loop-i.sums f in
    let n = tab-length (length ps) F in
    let now = sym (get_or-map f c.loop-i.sums i c.index-sums-i.result [] (omega (arith, c.loop-i-test.true, c.loop-i.auto.sums)))
    ∙ ap (λ (x : List (List ℤ)). get_or x i []) c.loop-i.invariant.0 ∙ written_past i (tab (length ps) F) us [] i (omega (arith, below)) (omega arith) in
    let e : c.from_residual.result ≡ Err c.in_err-sum.field-0.0 = search rules in
    let is = sym (ap (image f) c.in_err-sum.was) ∙ c.multiplier.ensures ∙ ap (λ (u : List ℤ). guard (strays size c.args.self.l (get_or ps i 0) u) TooFine (Ok (multiplied size c.args.self.l (get_or ps i 0) u))) now in
    let r = guard_err _ TooFine _ c.in_err-sum.field-0.0 is in
    ap (λ (a : Result (Unit {0}) Refusal). (a, map f (set c.loop-i.sums i (get_or c.loop-i.sums i c.index-sums-i.result)))) (e ∙ ap Err r.0)
    ∙ stops size c.args.self.l ps us same i below c.loop-i.invariant.1 r.1 _ (ap (map f) (set-get_or c.loop-i.sums i c.index-sums-i.result) ∙ c.loop-i.invariant.0)

pub loop-i-preserved : goal.loop-i-preserved
loop-i-preserved g c =
    let f = g.K.Kind.coords in
    let size = g.K.Kind.size in
    let i = c.loop-i.i in
    let ps = c.args.numbers.now in
    let xs = c.args.sums.now in
    let us = map f xs in
    let F : ℕ → List ℤ = λ k. multiplied size c.args.self.l (get_or ps k 0) (get_or us k []) in
    let below : i < length ps = omega (arith, c.loop-i-test.true, c.if-numbers-sums.false) in
    let l = length-map c.loop-i.sums f in
    let n = tab-length (length ps) F in
    let now = sym (get_or-map f c.loop-i.sums i c.index-sums-i.result [] (omega (arith, c.loop-i-test.true, c.loop-i.auto.sums)))
    ∙ ap (λ (x : List (List ℤ)). get_or x i []) c.loop-i.invariant.0 ∙ written_past i (tab (length ps) F) us [] i (omega (arith, below)) (omega arith) in
    let is = sym (ap (image f) c.in_ok-sum.was) ∙ c.multiplier.ensures ∙ ap (λ (u : List ℤ). guard (strays size c.args.self.l (get_or ps i 0) u) TooFine (Ok (multiplied size c.args.self.l (get_or ps i 0) u))) now in
    let r = guard_ok _ TooFine _ _ is in (
      written_more f xs c.loop-i.sums (tab (length ps) F) i _ (omega (arith, below)) c.loop-i-test.true
          (r.0 ∙ sym (get_or-tab (length ps) F [] i below)) c.loop-i.invariant.0,
      below_more _ _ c.loop-i.invariant.1 r.1,
    )

pub returns : goal.returns
returns g c =
    let f = g.K.Kind.coords in
    let ps = c.args.numbers.now in
    let us = map f c.args.sums.now in
    let end = c.loop-i-test.false in
    let n = tab-length (length ps) (λ k. multiplied g.K.Kind.size c.args.self.l (get_or ps k 0) (get_or us k [])) in
    let long = length-map c.args.sums.now f in
    let same : length ps ≡ length us = c.if-numbers-sums.false ∙ sym long in
    ends g.K.Kind.size c.args.self.l ps us same (λ k h. c.loop-i.invariant.1 k (omega (arith, c.if-numbers-sums.false))) _
    (c.loop-i.invariant.0 ∙ written_all c.loop-i.i _ us (omega (arith, n, c.if-numbers-sums.false)) (omega (arith, same)))
