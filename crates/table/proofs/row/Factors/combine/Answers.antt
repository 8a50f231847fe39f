use Rattle.std.proofs.Common.{ℕ, get_or, pos, ◌-ℤ◌, ◌*ℤ◌, w64, SFits, rules}
use Rattle.std.proofs.lemmas.Int.{to_z-of_z}
use Rattle.whole.specs.Lists.{at}
use Rattle.whole.proofs.Lists.{tab-length}
use Rattle.table.proofs.Places.{put_more, read_next, tab_more}
use Rattle.table.proofs.row.Factors.combine.Goals as goal

pub loop-j-preserved : goal.loop-j-preserved
loop-j-preserved c =
    let xs = c.args.cells.now in
    let j = c.loop-j.j in
    let fx : SFits w64 (get_or c.loop-j.cells j (pos 0)) = search rules in
    let fy : SFits w64 (get_or c.args.pivot.now j (pos 0)) = search rules in
    let fr : SFits w64 c.mix.result = search rules in
    let f = λ (j : ℕ). c.args.self.p *ℤ at xs j -ℤ c.args.self.q *ℤ at c.args.pivot.now j in
    let far = tab-length j f in
    let e = read_next _ xs c.loop-j.cells j c.loop-j.invariant far c.loop-j-test.true (pos 0) in
    let r = simp to_z-of_z at c.mix.ensures in
    let put = put_more _ xs c.loop-j.cells j c.loop-j.invariant far c.loop-j-test.true (pos 0) c.mix.result in
    let more = tab_more j f in
    simp to_z-of_z (cc)
