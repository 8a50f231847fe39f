use Rattle.std.proofs.Common.{length, drop, arith}
use Rattle.words.proofs.Cuts.{placed}
use Rattle.words.proofs.lines.place_line.Goals as goal

pub returns : goal.returns
returns c =
    let p = placed c.copy_from_slice.new.self c.args.line.now (drop (length c.args.line.now) c.args.out.now) c.copy_from_slice.ensures.after in
    (p.0, p.1, omega arith, omega arith)
