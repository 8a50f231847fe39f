use Rattle.std.proofs.Common.{◌≡◌, ℕ, ◌/◌, ◌<◌, ◌≤◌, false, map, length, get_or, nat_abs, Result, Err, sym, ap, ◌∙◌, subst, arith, rules, below_more}
use Rattle.std.proofs.lemmas.List.{length-map}
use Rattle.records.specs.declared.refusal.Refusal.{Refusal}
use Rattle.records.specs.Outcomes.{image}
use Rattle.whole.proofs.Lists.{tab-length}
use Rattle.linear.specs.Elimination.{entry}
use Rattle.rules.specs.Pulling.{carried, divisors, lowered, lowered_sums, some_above}
use Rattle.sheets.proofs.Writing.{written_more}
use Rattle.workings.specs.Shown.{shown}
use Rattle.sheets.proofs.Writing.{written_all}
use Rattle.fractions.proofs.Placed.{written_set}
use Rattle.residuals.proofs.Written.{row_stops, rows_end}
use Rattle.residuals.proofs.Lowering.{right_long, carried_found, row_ok, row_err}
use Rattle.residuals.proofs.rows.write_carried.Goals as goal

pub carried-g-requires : goal.carried-g-requires
carried-g-requires g c =
    let f = g.K.Kind.coords in
    let m = (shown c.args.workings.now).m in
    let t = (shown c.args.workings.now).table in
    let below : c.loop-i.i < m = omega (arith, c.loop-i-test.true, c.m-i-end.ensures.value) in
    let long = right_long g.K.Kind.size m t (map f c.args.found.now) c.loop-i.i below _ c.right_half.ensures.value in
    record {
      long = omega (arith, long, c.requires.many);
      few = omega (arith, long, c.m-i-end.ensures.value, c.m-i-end.ensures.most);
      limited = c.right_half.ensures.most;
      small = subst (λ (k : ℕ). some_above 300000000 g.K.Kind.size k (map f c.args.found.now) ≡ false) (sym long) c.requires.small;
    }

pub returns-in_err-number : goal.returns-in_err-number
returns-in_err-number g c =
    let f = g.K.Kind.coords in
    let size = g.K.Kind.size in
    let i = c.loop-i.i in
    let m = (shown c.args.workings.now).m in
    let t = (shown c.args.workings.now).table in
    let cs = map f c.args.found.now in
    let below : i < m = omega (arith, c.loop-i-test.true, c.m-i-end.ensures.value) in
    let this = carried_found size m t cs i below _ (f c.carried-g.result) c.right_half.ensures.value c.carried-g.ensures in
    let e : c.from_residual.result ≡ Err c.in_err-number.field-0.0 = search rules in
    let is = sym (ap (image (λ q. (q.0, f q.1))) c.in_err-number.was) ∙ c.lower_row.ensures in
    let row = row_err size m t cs i c.diagonal-p.result below c.diagonal-p.ensures.value (f c.carried-g.result) this c.in_err-number.field-0.0 is in
    ap (λ (r : Result (Unit {0}) Refusal). (r, c.loop-i.diagonal, map f c.loop-i.sums)) (e ∙ ap Err row.0)
    ∙ row_stops size m t cs c.args.diagonal.now (map f c.args.sums.now) c.requires.numbers (length-map c.args.sums.now f ∙ c.requires.sums) i below c.loop-i.invariant.2 row.1 _ c.loop-i.invariant.0 _ c.loop-i.invariant.1

pub loop-i-preserved : goal.loop-i-preserved
loop-i-preserved g c =
    let f = g.K.Kind.coords in
    let size = g.K.Kind.size in
    let i = c.loop-i.i in
    let m = (shown c.args.workings.now).m in
    let t = (shown c.args.workings.now).table in
    let cs = map f c.args.found.now in
    let gs = carried size m t cs in
    let hs = divisors m t gs in
    let below : i < m = omega (arith, c.loop-i-test.true, c.m-i-end.ensures.value) in
    let this = carried_found size m t cs i below _ (f c.carried-g.result) c.right_half.ensures.value c.carried-g.ensures in
    let is = sym (ap (image (λ q. (q.0, f q.1))) c.in_ok-number.was) ∙ c.lower_row.ensures in
    let row = row_ok size m t cs i c.diagonal-p.result below c.diagonal-p.ensures.value (f c.carried-g.result) this c.in_ok-number.number (f c.in_ok-number.sum) is in
    let a = tab-length m (λ i. nat_abs (entry t i i) / get_or hs i 1) in
    let b : length (lowered_sums size m gs hs) ≡ m = tab-length m _ in (
      written_set (lowered m t hs) c.args.diagonal.now c.loop-i.diagonal i c.in_ok-number.number 0 (omega (arith, a)) (omega (arith, c.requires.numbers)) row.0 c.loop-i.invariant.0,
      written_more f c.args.sums.now c.loop-i.sums (lowered_sums size m gs hs) i c.in_ok-number.sum (omega (arith, b)) (omega (arith, c.requires.sums)) row.1 c.loop-i.invariant.1,
      below_more _ _ c.loop-i.invariant.2 row.2,
    )

pub returns : goal.returns
returns g c =
    let f = g.K.Kind.coords in
    let size = g.K.Kind.size in
    let m = (shown c.args.workings.now).m in
    let t = (shown c.args.workings.now).table in
    let cs = map f c.args.found.now in
    let gs = carried size m t cs in
    let hs = divisors m t gs in
    let end : m ≤ c.loop-i.i = omega (arith, c.loop-i-test.false, c.m-i-end.ensures.value) in
    let a = tab-length m (λ i. nat_abs (entry t i i) / get_or hs i 1) in
    let b : length (lowered_sums size m gs hs) ≡ m = tab-length m _ in
    let long = length-map c.args.sums.now f in
    rows_end size m t cs c.args.diagonal.now (map f c.args.sums.now) c.requires.numbers (long ∙ c.requires.sums) (λ k h. c.loop-i.invariant.2 k (omega arith))
    _ (c.loop-i.invariant.0 ∙ written_all c.loop-i.i (lowered m t hs) c.args.diagonal.now (omega arith) (omega (arith, c.requires.numbers)))
    _ (c.loop-i.invariant.1 ∙ written_all c.loop-i.i (lowered_sums size m gs hs) (map f c.args.sums.now) (omega (arith, b)) (omega (arith, c.requires.sums)))
