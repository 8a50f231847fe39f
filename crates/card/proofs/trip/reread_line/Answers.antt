use Rattle.lines.specs.Lines.{said}
use Rattle.card.proofs.Ways.{reread}
use Rattle.card.proofs.trip.reread_line.Goals as goal

pub returns : goal.returns
returns g c = reread g.V.Written.form g.met.V.Written.laws c.args.count (said c.args.line.now) c.args.space.now c.write_line.new.out c.in_ok-size.size c.read_line.result c.in_ok-size.ensures c.read_line.ensures
