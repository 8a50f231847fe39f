use Rattle.std.proofs.Common.{vec_items, arith}
use Rattle.card.proofs.Putting.{put_one}
use Rattle.card.proofs.draft.Draft.put_one.Goals as goal

pub returns-clause-put : goal.returns-clause-put
returns-clause-put g c = put_one g.V.Written.form c.put.result c.args.value (vec_items c.args.self.now.text) (vec_items c.append_bytes.new.out) (vec_items c.put.new.out) _ c.in_ok-append_bytes.ensures (omega arith) c.put.ensures
