use Rattle.std.proofs.Common.{decimal, vec_items, rules, arith}
use Rattle.answers.proofs.Longer.{one_more}
use Rattle.answers.proofs.rows.put_counts.Goals as goal

pub loop-number-preserved : goal.loop-number-preserved
loop-number-preserved c =
    one_more decimal c.args.numbers.now c.loop-number.number-index _ (vec_items c.args.out.now) (vec_items c.loop-number.out) (vec_items c.append_bytes.new.out) (vec_items c.put_count.new.out) _
    c.loop-number-test.true (search rules) c.loop-number.invariant c.in_ok-append_bytes.ensures (omega arith) c.in_ok-put_count.ensures
