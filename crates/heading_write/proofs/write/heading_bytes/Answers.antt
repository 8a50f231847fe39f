use Rattle.std.proofs.Common.{vec_items}
use Rattle.heading.specs.Names.{texts}
use Rattle.heading_write.proofs.Heads.{heading_joined}
use Rattle.heading_write.proofs.write.heading_bytes.Goals as goal

pub returns : goal.returns
returns c =
    heading_joined c.args.kind (texts c.args.names.now) (vec_items c.new-text.result) (vec_items c.put.new.out) (vec_items c.put_names.new.out) (vec_items c.append_bytes.new.out)
    c.new-text.ensures.items c.in_ok-put.ensures c.in_ok-put_names.ensures c.in_ok-append_bytes.ensures
