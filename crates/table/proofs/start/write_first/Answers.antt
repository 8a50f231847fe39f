use Rattle.std.proofs.Common.{◌≡◌, ℕ, ◌≤◌, length, ap, ◌∙◌, arith}
use Rattle.whole.specs.Lists.{at, coord}
use Rattle.linear.specs.Gram.{gram}
use Rattle.table.specs.Tables.{grid}
use Rattle.table.proofs.First.{first_cell, first_more, first_all}
use Rattle.table.proofs.Inside.{inside}
use Rattle.table.proofs.start.write_first.Goals as goal
use Rattle.table.proofs.start.write_first.Goals.{Start}

few : (c : Start) → length c.args.rows.now ≤ 12
few c = (inside _ _ c.args.shares.now c.args.rows.now c.requires.limits).relations

pub loop-i-preserved : goal.loop-i-preserved
loop-i-preserved c =
    let n = length c.args.shares.now in
    let m = length c.args.rows.now in
    let v = at c.args.shares.now in
    let R = coord c.args.rows.now in
    let l : length c.loop-i.all ≡ m = c.loop-i.auto.all ∙ c.requires.many in
    first_more n m v R (record { rows = c.loop-i.all }) c.loop-i.i c.begin.new.self (omega arith) c.loop-i.invariant
    (first_cell m c.loop-i.i (gram n v R c.loop-i.i) (few (goal.at.loop-i-preserved c).Start) (omega arith) c.begin.new.self.cells c.begin.ensures)

pub returns : goal.returns
returns c =
    let n = length c.args.shares.now in
    let m = length c.args.rows.now in
    let l : length c.loop-i.all ≡ m = c.loop-i.auto.all ∙ c.requires.many in
    let end : m ≤ c.loop-i.i = omega arith in
    ap (λ (k : ℕ). grid k (record { rows = c.loop-i.all })) l ∙ first_all n m (at c.args.shares.now) (coord c.args.rows.now) (record { rows = c.loop-i.all }) (λ a b h l. c.loop-i.invariant a b (omega arith) l)
