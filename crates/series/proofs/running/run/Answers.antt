use Rattle.std.proofs.Common.{◌∙◌, arith, w64, SFits, rules}
use Rattle.std.proofs.lemmas.Int.{to_z-of_z}
use Rattle.series.proofs.Turns.{first_turn, next_turn, last_turn}
use Rattle.series.proofs.running.run.Goals as goal

pub loop-call-init : goal.loop-call-init
loop-call-init g c =
    let o = c.in_ok-desk.ensures in
    let m = c.in_ok-answers.ensures in
    first_turn g.K.Kind.size g.K.Kind.coords c.args.count c.args.calls.now c.in_ok-answers.answers c.in_ok-desk.desk o.0 o.1 o.2 m.items m.len m.capacity

pub push_reserved-requires : goal.push_reserved-requires
push_reserved-requires g c = let t = c.loop-call.invariant in let l = c.loop-call-test.true in omega (arith, t.many, t.room)

pub loop-call-preserved : goal.loop-call-preserved
loop-call-preserved g c =
    let k = c.in_ok-next.ensures in
    next_turn g.K.Kind.size g.K.Kind.coords c.args.count c.args.calls.now c.loop-call.call-index c.loop-call.answers c.push_reserved.new.self c.loop-call.desk c.in_ok-next.next c.call-item.result c.in_ok-next.answer
    c.loop-call-test.true c.call-item.is k.0 k.1 c.push_reserved.ensures.items c.push_reserved.ensures.len c.push_reserved.ensures.capacity c.loop-call.invariant

pub returns : goal.returns
returns g c =
    let fits : SFits w64 c.close-values.result.denominator = search rules in
    last_turn g.K.Kind.size g.K.Kind.coords c.args.count c.args.calls.now c.loop-call.call-index c.loop-call.answers c.loop-call.desk _ _ c.loop-call-test.false c.loop-call.invariant
    c.close-values.ensures.values (to_z-of_z w64 c.close-values.result.denominator fits ∙ c.close-values.ensures.denominator)
