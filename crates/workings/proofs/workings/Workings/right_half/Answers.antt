use Rattle.std.proofs.Common.{◌≡◌, length, get_or, rules}
use Rattle.table.specs.Tables.{no_row}
use Rattle.workings.proofs.Halves.{half_is, half_size}
use Rattle.workings.proofs.workings.Workings.right_half.Goals as goal

pub returns-then-i-self : goal.returns-then-i-self
returns-then-i-self c =
    let long : length (get_or c.args.self.now.table.rows c.args.i no_row).cells ≡ 24 = search rules in
    let e = half_is c.args.self.now.m c.args.self.now.table c.args.i c.args.self.now.few c.if-i-self.true long c.args.self.now.within in
    record {
      value = (cc);
      most = half_size c.args.self.now.m c.args.self.now.table c.args.i c.args.self.now.few c.if-i-self.true long c.args.self.now.within;
    }
