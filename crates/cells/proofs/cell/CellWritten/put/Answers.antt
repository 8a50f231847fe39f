use Rattle.std.proofs.Common.{vec_items, w64, SFits, rules}
use Rattle.std.proofs.lemmas.Int.{to_z-of_z}
use Rattle.cells.specs.Laws.{put_weight}
use Rattle.cells.proofs.cell.CellWritten.put.Goals as goal

pub returns-in-Weighted : goal.returns-in-Weighted
returns-in-Weighted c =
    let f : SFits w64 c.in-Weighted.n = search rules in
    put_weight c.put.result c.args.self _ _ (vec_items c.args.out.now) (vec_items c.put.new.out) c.in-Weighted.is (to_z-of_z w64 _ f) c.put.ensures
