use Rattle.std.proofs.Common.{ℕ, List, map, length, ℤ, sym, ap, ◌∙◌, ap₂}
use Rattle.std.proofs.lemmas.List.{length-map}
use Rattle.rules.specs.Pulling.{residuals, some_above}
use Rattle.workings.specs.Shown.{shown}
use Rattle.residuals.specs.Rows.{chosen}
use Rattle.residuals.specs.Written.{carried_written}
use Rattle.residuals.proofs.Chosen.{residual_rows}
use Rattle.residuals.proofs.Written.{gaps_fine, rows_told}
use Rattle.residuals.proofs.task.Task.write_rows.Goals as goal

pub write_carried-requires-clause-small : goal.write_carried-requires-clause-small
write_carried-requires-clause-small g c =
    let f = g.K.Kind.coords in
    let size = g.K.Kind.size in
    let t = c.args.self.now in
    let w = shown t.workings.now in
    let vs = map f t.values.now in
    let ws = map f t.wishes.now in
    let cs = residuals size w.count w.roles (chosen w.count t.relations.now (map f t.constants.now) t.rows.now) t.d vs ws in
    let q = gaps_fine size (length t.rows.now) cs (map f c.args.found.now) (residual_rows w.count t.relations.now (map f t.constants.now) t.rows.now size w.roles t.d vs ws) (map f c.write_residuals.new.found)
    (ap (λ r. (r, map f c.write_residuals.new.found)) (sym c.in_ok-write_residuals.was) ∙ c.write_residuals.ensures) in
    ap₂ (λ (m : ℕ) (xs : List (List ℤ)). some_above 300000000 size m xs) (sym t.many) q.1 ∙ q.0

pub returns : goal.returns
returns g c =
    let f = g.K.Kind.coords in
    let size = g.K.Kind.size in
    let t = c.args.self.now in
    let w = shown t.workings.now in
    let m = length t.rows.now in
    let vs = map f t.values.now in
    let ws = map f t.wishes.now in
    let cs = residuals size w.count w.roles (chosen w.count t.relations.now (map f t.constants.now) t.rows.now) t.d vs ws in
    let q = gaps_fine size m cs (map f c.args.found.now) (residual_rows w.count t.relations.now (map f t.constants.now) t.rows.now size w.roles t.d vs ws) (map f c.write_residuals.new.found)
    (ap (λ r. (r, map f c.write_residuals.new.found)) (sym c.in_ok-write_residuals.was) ∙ c.write_residuals.ensures) in
    rows_told size m w.table cs (map f c.args.found.now) c.args.diagonal.now (map f c.args.sums.now) (length-map c.args.found.now f ∙ c.if-found-m.false) c.if-diagonal-m.false (length-map c.args.sums.now f ∙ c.if-sums-m.false)
    q.0 c.write_carried.result (map f c.write_residuals.new.found) c.write_carried.new.diagonal (map f c.write_carried.new.sums) q.1
    (c.write_carried.ensures ∙ ap₂ (λ (k : ℕ) (xs : List (List ℤ)). carried_written size k w.table xs c.args.diagonal.now (map f c.args.sums.now)) (sym t.many) q.1)
