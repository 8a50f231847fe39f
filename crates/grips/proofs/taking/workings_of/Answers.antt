use Rattle.std.proofs.Common.{ℕ, map, take, sym, ◌∙◌, ap₂, arith}
use Rattle.workings.specs.Chosen.{gripped}
use Rattle.sheets.specs.Shown.{numbers}
use Rattle.sheets.proofs.Fit.{long}
use Rattle.grips.proofs.Answering.{answered}
use Rattle.grips.proofs.taking.workings_of.Goals as goal

pub returns : goal.returns
returns g c =
    let f = g.K.Kind.coords in
    let size = g.K.Kind.size in
    let s = c.args.sheet.now in
    let fine = sym c.if-unfit.ensures in
    let t = long f size (numbers s) c.args.values.now c.args.relations.now c.args.constants.now fine in
    c.make.ensures.value
    ∙ ap₂ (λ (b n : ℕ). gripped (take b c.args.relations.now) (take n c.args.roles.now)) c.bound-bound.ensures c.count-n.ensures
    ∙ answered size (numbers s) (map f c.args.values.now) c.args.relations.now (map f c.args.constants.now) c.args.roles.now c.args.spare.now
    s.few (omega (arith, t.relations_long, s.room)) (omega (arith, c.if-roles-n.false, c.count-n.ensures)) c.if-spare-lt-MOST_COUNTED.false fine
