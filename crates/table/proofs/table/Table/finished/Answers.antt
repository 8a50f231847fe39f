use Rattle.std.proofs.Common.{◌≡◌, ◌≤◌, length, replicate, pos, Ok, sym, ap, ◌∙◌, arith}
use Rattle.std.proofs.lemmas.List.{length-take-le}
use Rattle.table.specs.Tables.{rows_grid}
use Rattle.table.proofs.Inside.{inside}
use Rattle.table.proofs.Whole.{front_rows, front_grid, first_within, finished_is}
use Rattle.table.proofs.table.Table.finished.Goals as goal
use Rattle.table.proofs.table.Table.finished.Goals.{After-write_first}

-- the rows that are written are as many as the relations
module _ (c : After-write_first) where
  relations : length c.args.rows.now ≤ 12
  relations = (inside (length c.args.shares.now) (length c.args.rows.now) c.args.shares.now c.args.rows.now (sym c.if-is_outside.ensures)).relations

  many : length c.write_first.new.all ≡ length c.args.rows.now
  many = let r = relations in c.write_first.auto.all ∙ length-take-le (length c.args.rows.now) (replicate 12 (record { cells = replicate 24 (pos 0) })) (omega arith)

pub eliminate-requires : goal.eliminate-requires
eliminate-requires c =
    let a = (goal.at.eliminate-requires c).After-write_first in
    let r = relations a in
    let f = front_rows (length c.args.rows.now) c.write_first.new.all _ (many a) in
    let n = ap length f ∙ many a in
    (omega arith, first_within (length c.args.shares.now) (length c.args.rows.now) c.args.shares.now c.args.rows.now _ n (sym c.if-is_outside.ensures) (ap rows_grid f ∙ c.write_first.ensures))

pub returns : goal.returns
returns c =
    let a = (goal.at.returns c).After-write_first in
    let f = front_rows (length c.args.rows.now) c.write_first.new.all _ (many a) in
    let n = ap length f ∙ many a in
    ap Ok (front_grid (length c.args.rows.now) c.eliminate.new.rows _ (c.eliminate.auto.rows ∙ n))
    ∙ finished_is (length c.args.shares.now) (length c.args.rows.now) c.args.shares.now c.args.rows.now _ n (sym c.if-is_outside.ensures) (ap rows_grid f ∙ c.write_first.ensures)
    (Ok (rows_grid c.eliminate.new.rows)) c.in_ok-eliminate.ensures
