use Rattle.std.proofs.Common.{arith, w64, SFits}
use Rattle.std.proofs.lemmas.Int.{to_z-of_z}
use Rattle.whole.proofs.Sizes.{fits}
use Rattle.table.proofs.Sizes.{left-fits, right-fits, mix_fits}
use Rattle.table.proofs.row.Factors.mix.Goals as goal
use Rattle.table.proofs.row.Factors.mix.Goals.{Start}

module _ (c : Start) where
  p-fits : SFits w64 c.args.self.p
  p-fits = let h = c.args.self.row in fits c.args.self.p (omega arith)

  q-fits : SFits w64 c.args.self.q
  q-fits = let h = c.args.self.pivot in fits c.args.self.q (omega arith)

pub overflow_mul-result : goal.overflow_mul-result
overflow_mul-result c =
    let fp = p-fits (goal.at.overflow_mul-result c).Start in let fx = c.ranges.x in
    simp to_z-of_z (left-fits c.args.self.p c.args.x c.args.self.q c.args.y c.args.self.row c.requires.0 c.args.self.pivot c.requires.1)

pub overflow_mul-result-2 : goal.overflow_mul-result-2
overflow_mul-result-2 c =
    let fq = q-fits (goal.at.overflow_mul-result-2 c).Start in let fy = c.ranges.y in
    simp to_z-of_z (right-fits c.args.self.p c.args.x c.args.self.q c.args.y c.args.self.row c.requires.0 c.args.self.pivot c.requires.1)

pub overflow_sub-result : goal.overflow_sub-result
overflow_sub-result c =
    let fp = p-fits (goal.at.overflow_sub-result c).Start in let fx = c.ranges.x in let fq = q-fits (goal.at.overflow_sub-result c).Start in let fy = c.ranges.y in
    let l = left-fits c.args.self.p c.args.x c.args.self.q c.args.y c.args.self.row c.requires.0 c.args.self.pivot c.requires.1 in
    let r = right-fits c.args.self.p c.args.x c.args.self.q c.args.y c.args.self.row c.requires.0 c.args.self.pivot c.requires.1 in
    simp to_z-of_z (mix_fits c.args.self.p c.args.x c.args.self.q c.args.y c.args.self.row c.requires.0 c.args.self.pivot c.requires.1)

pub returns : goal.returns
returns c =
    let fp = p-fits (goal.at.returns c).Start in let fx = c.ranges.x in let fq = q-fits (goal.at.returns c).Start in let fy = c.ranges.y in
    let l = left-fits c.args.self.p c.args.x c.args.self.q c.args.y c.args.self.row c.requires.0 c.args.self.pivot c.requires.1 in
    let r = right-fits c.args.self.p c.args.x c.args.self.q c.args.y c.args.self.row c.requires.0 c.args.self.pivot c.requires.1 in
    let d = mix_fits c.args.self.p c.args.x c.args.self.q c.args.y c.args.self.row c.requires.0 c.args.self.pivot c.requires.1 in
    simp to_z-of_z
