use Rattle.std.proofs.Common.{ap, ◌∙◌, w64, SFits, rules}
use Rattle.std.proofs.lemmas.Int.{to_z-of_z}
use Rattle.std.proofs.lemmas.Result.{err_from_is_err_and}
use Rattle.kinds.proofs.Steps.{combined-one, alone}
use Rattle.kinds.proofs.length.LengthKind.plus_scaled.Goals as goal

pub returns-in_err-x : goal.returns-in_err-x
returns-in_err-x c =
    let p = err_from_is_err_and c.from_residual.result c.from_residual.ensures.1 in
    let fk = c.ranges.k in
    let f : SFits w64 c.args.self.x = search rules in
    let f2 : SFits w64 c.args.v.x = search rules in
    let d = simp to_z-of_z at c.in_err-x.ensures in
    rw (p.1, p.2) (ap alone d ∙ combined-one c.args.self.x c.args.k c.args.v.x)
