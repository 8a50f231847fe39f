use Rattle.std.proofs.Common.{vec_items, arith}
use Rattle.lines.specs.Lines.{said}
use Rattle.card.proofs.Ways.{worded}
use Rattle.card.proofs.write.line_bytes.Goals as goal

pub returns : goal.returns
returns g c =
    worded g.V.Written.form c.args.count (said c.args.line.now) c.verb_of-verb.result (vec_items c.new.result) (vec_items c.put.new.out) (vec_items c.put_rest.new.self.text) (vec_items c.append_bytes.new.out) _
    c.verb_of-verb.ensures c.new.ensures.items c.in_ok-put.ensures c.in_ok-put_rest.ensures c.in_ok-append_bytes.ensures (omega arith)
