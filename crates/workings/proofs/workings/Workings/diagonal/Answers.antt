use Rattle.std.proofs.Common.{sym, ◌∙◌, arith}
use Rattle.table.proofs.Grids.{entry-grid}
use Rattle.workings.proofs.Numbers.{reads, no_entry}
use Rattle.workings.proofs.workings.Workings.diagonal.Goals as goal

pub returns-then-i-self : goal.returns-then-i-self
returns-then-i-self c =
    let h = c.if-i-self.true in
    let r = reads _ (c.args.self.now.within c.args.i c.args.i h (omega arith)) (c.args.self.now.upright c.args.i h) in
    let e = r.0 ∙ sym (entry-grid c.args.self.now.m c.args.self.now.table c.args.i c.args.i h (omega arith)) in
    record { value = (cc); most = r.1 }

pub returns-else-i-self : goal.returns-else-i-self
returns-else-i-self c = record { value = sym (no_entry c.args.self.now.m c.args.self.now.table c.args.i c.args.i c.if-i-self.false); most = omega arith }
