use Rattle.std.proofs.Common.{ap, ◌∙◌, w64, SFits, rules}
use Rattle.std.proofs.lemmas.Int.{to_z-of_z}
use Rattle.std.proofs.lemmas.Result.{err_from_is_err_and}
use Rattle.kinds.specs.Outcomes.{fused_at}
use Rattle.kinds_tests.proofs.Triples.{combined_three, three}
use Rattle.kinds_tests.proofs.solid.SolidKind.plus_scaled.Goals as goal

pub returns-in_err-x : goal.returns-in_err-x
returns-in_err-x c =
    let p = err_from_is_err_and c.from_residual.result c.from_residual.ensures.1 in
    let fk = c.ranges.k in
    let f : SFits w64 c.args.self.x = search rules in
    let g : SFits w64 c.args.self.y = search rules in
    let h : SFits w64 c.args.self.z = search rules in
    let f2 : SFits w64 c.args.v.x = search rules in
    let g2 : SFits w64 c.args.v.y = search rules in
    let h2 : SFits w64 c.args.v.z = search rules in
    let d = simp to_z-of_z at c.in_err-x.ensures in
    rw (p.1, p.2) (ap (λ r. three r (fused_at c.args.self.y c.args.k c.args.v.y) (fused_at c.args.self.z c.args.k c.args.v.z)) d ∙ combined_three c.args.self.x c.args.self.y c.args.self.z c.args.k c.args.v.x c.args.v.y c.args.v.z)

pub returns-in_err-y : goal.returns-in_err-y
returns-in_err-y c =
    let p = err_from_is_err_and c.from_residual-in_err-y.result c.from_residual-in_err-y.ensures.1 in
    let fk = c.ranges.k in
    let f : SFits w64 c.args.self.x = search rules in
    let g : SFits w64 c.args.self.y = search rules in
    let h : SFits w64 c.args.self.z = search rules in
    let f2 : SFits w64 c.args.v.x = search rules in
    let g2 : SFits w64 c.args.v.y = search rules in
    let h2 : SFits w64 c.args.v.z = search rules in
    let d = simp to_z-of_z at c.in_ok-x.ensures in
    let e = simp to_z-of_z at c.in_err-y.ensures in
    rw (p.1, p.2) ((λ i. three (d i) (e i) (fused_at c.args.self.z c.args.k c.args.v.z)) ∙ combined_three c.args.self.x c.args.self.y c.args.self.z c.args.k c.args.v.x c.args.v.y c.args.v.z)

pub returns-in_err-z : goal.returns-in_err-z
returns-in_err-z c =
    let p = err_from_is_err_and c.from_residual-in_err-z.result c.from_residual-in_err-z.ensures.1 in
    let fk = c.ranges.k in
    let f : SFits w64 c.args.self.x = search rules in
    let g : SFits w64 c.args.self.y = search rules in
    let h : SFits w64 c.args.self.z = search rules in
    let f2 : SFits w64 c.args.v.x = search rules in
    let g2 : SFits w64 c.args.v.y = search rules in
    let h2 : SFits w64 c.args.v.z = search rules in
    let d = simp to_z-of_z at c.in_ok-x.ensures in
    let e = simp to_z-of_z at c.in_ok-y.ensures in
    let t = simp to_z-of_z at c.in_err-z.ensures in
    rw (p.1, p.2) ((λ i. three (d i) (e i) (t i)) ∙ combined_three c.args.self.x c.args.self.y c.args.self.z c.args.k c.args.v.x c.args.v.y c.args.v.z)

pub returns : goal.returns
returns c =
    let fk = c.ranges.k in
    let f : SFits w64 c.args.self.x = search rules in
    let g : SFits w64 c.args.self.y = search rules in
    let h : SFits w64 c.args.self.z = search rules in
    let f2 : SFits w64 c.args.v.x = search rules in
    let g2 : SFits w64 c.args.v.y = search rules in
    let h2 : SFits w64 c.args.v.z = search rules in
    let fx : SFits w64 c.in_ok-x.x = search rules in
    let fy : SFits w64 c.in_ok-y.y = search rules in
    let fz : SFits w64 c.in_ok-z.z = search rules in
    let d = simp to_z-of_z at c.in_ok-x.ensures in
    let e = simp to_z-of_z at c.in_ok-y.ensures in
    let t = simp to_z-of_z at c.in_ok-z.ensures in
    simp to_z-of_z ((λ i. three (d i) (e i) (t i)) ∙ combined_three c.args.self.x c.args.self.y c.args.self.z c.args.k c.args.v.x c.args.v.y c.args.v.z)
