use Rattle.std.proofs.Common.{vec_items, arith, w64, SFits, rules}
use Rattle.std.proofs.lemmas.Int.{ints}
use Rattle.forms.specs.Points.{put_length}
use Rattle.forms.proofs.length.LengthWritten.put.Goals as goal

pub returns : goal.returns
returns c =
    let f : SFits w64 c.args.self.x = search rules in
    put_length c.put.result c.args.self _ (vec_items c.args.out.now) (vec_items c.put.new.out) c.put.ensures (omega (arith, ints))
