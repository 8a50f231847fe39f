use Rattle.std.proofs.Common.{get_or, take, ℤ, pos, ◌∙◌, arith, w64, SFits, rules}
use lib.Signed.{quot_z}
use Rattle.std.proofs.lemmas.List.{length-map, length-take-le, map_more}
use Rattle.std.proofs.lemmas.Int.{to_z-of_z}
use Rattle.table.proofs.Sizes.{quot_fits}
use Rattle.table.proofs.Places.{put_more, read_next}
use Rattle.table.proofs.row.divide.Goals as goal

pub loop-x-preserved : goal.loop-x-preserved
loop-x-preserved c =
    let xs = c.args.cells.now in
    let i = c.loop-x.x-index in
    let f = λ (x : ℤ). quot_z x c.args.g in
    let fg = c.ranges.g in
    let fx : SFits w64 (get_or c.loop-x.x-items i (pos 0)) = search rules in
    let inv = simp to_z-of_z at c.loop-x.invariant in
    let far = length-map (take i xs) f ∙ length-take-le i xs (omega arith) in
    let e = read_next _ xs c.loop-x.x-items i inv far c.loop-x-test.true (pos 0) in
    let fr = quot_fits (get_or c.loop-x.x-items i (pos 0)) c.args.g c.requires fx in
    let put = put_more _ xs c.loop-x.x-items i inv far c.loop-x-test.true (pos 0) (f (get_or c.loop-x.x-items i (pos 0))) in
    let more = map_more f xs i (pos 0) c.loop-x-test.true in
    simp to_z-of_z (cc)
