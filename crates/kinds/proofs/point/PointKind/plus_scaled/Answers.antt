use Rattle.std.proofs.Common.{◌≡◌, Ok, ap, ◌∙◌, ap₂, w64, SFits, rules}
use Rattle.std.proofs.lemmas.Int.{to_z-of_z}
use Rattle.std.proofs.lemmas.Result.{err_from_is_err_and}
use Rattle.kinds.specs.Outcomes.{fused_at}
use Rattle.kinds.proofs.Steps.{combined_two, both}
use Rattle.kinds.proofs.point.PointKind.plus_scaled.Goals as goal

pub returns : goal.returns
returns c =
    let fk = c.ranges.k in
    let f : SFits w64 c.args.self.x = search rules in
    let g : SFits w64 c.args.self.y = search rules in
    let f2 : SFits w64 c.args.v.x = search rules in
    let g2 : SFits w64 c.args.v.y = search rules in
    let h : SFits w64 c.in_ok-x.x = search rules in
    let i : SFits w64 c.in_ok-y.y = search rules in
    let d = simp to_z-of_z at c.in_ok-x.ensures in
    let t = simp to_z-of_z at c.in_ok-y.ensures in
    let e : Ok c.in_ok-y.y ≡ fused_at c.args.self.y c.args.k c.args.v.y = cc in
    simp to_z-of_z (ap₂ both d e ∙ combined_two c.args.self.x c.args.self.y c.args.k c.args.v.x c.args.v.y)

pub returns-in_err-x : goal.returns-in_err-x
returns-in_err-x c =
    let p = err_from_is_err_and c.from_residual.result c.from_residual.ensures.1 in
    let fk = c.ranges.k in
    let f : SFits w64 c.args.self.x = search rules in
    let g : SFits w64 c.args.self.y = search rules in
    let f2 : SFits w64 c.args.v.x = search rules in
    let g2 : SFits w64 c.args.v.y = search rules in
    let d = simp to_z-of_z at c.in_err-x.ensures in
    rw (p.1, p.2) (ap (λ r. both r (fused_at c.args.self.y c.args.k c.args.v.y)) d ∙ combined_two c.args.self.x c.args.self.y c.args.k c.args.v.x c.args.v.y)

pub returns-in_err-y : goal.returns-in_err-y
returns-in_err-y c =
    let p = err_from_is_err_and c.from_residual-in_err-y.result c.from_residual-in_err-y.ensures.1 in
    let fk = c.ranges.k in
    let f : SFits w64 c.args.self.x = search rules in
    let g : SFits w64 c.args.self.y = search rules in
    let f2 : SFits w64 c.args.v.x = search rules in
    let g2 : SFits w64 c.args.v.y = search rules in
    let d = simp to_z-of_z at c.in_ok-x.ensures in
    let e = simp to_z-of_z at c.in_err-y.ensures in
    rw (p.1, p.2) (ap₂ both d e ∙ combined_two c.args.self.x c.args.self.y c.args.k c.args.v.x c.args.v.y)
