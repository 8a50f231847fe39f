use Rattle.heading.specs.Headings.{names_of}
use Rattle.heading_write.proofs.Heads.{reread}
use Rattle.heading_write.proofs.trip.reread_heading.Goals as goal

pub returns : goal.returns
returns c = reread c.args.heading.now.kind (names_of c.args.heading.now) c.args.space.now c.write_heading.new.out c.in_ok-size.size c.read_heading.result c.in_ok-size.ensures c.read_heading.ensures
