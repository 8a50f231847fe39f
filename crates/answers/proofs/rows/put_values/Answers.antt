use Rattle.std.proofs.Common.{vec_items, arith}
use Rattle.answers.specs.Texts.{value_text}
use Rattle.answers.proofs.Longer.{one_more}
use Rattle.answers.proofs.rows.put_values.Goals as goal

pub loop-value-preserved : goal.loop-value-preserved
loop-value-preserved g c =
    one_more (λ v. value_text (g.K.Kind.coords v)) c.args.values.now c.loop-value.value-index c.value-item.result (vec_items c.args.out.now) (vec_items c.loop-value.out) (vec_items c.append_bytes.new.out) (vec_items c.put_value.new.out) _
    c.loop-value-test.true c.value-item.is c.loop-value.invariant c.in_ok-append_bytes.ensures (omega arith) c.in_ok-put_value.ensures
