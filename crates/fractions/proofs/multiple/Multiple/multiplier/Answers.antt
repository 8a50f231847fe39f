use Rattle.std.proofs.Common.{◌/◌, sym, div-le_self, arith, w64}
use Rattle.std.proofs.lemmas.Int.{to_z_pos}
use Rattle.fractions.proofs.Multiplying.{product-strays, product-stays}
use Rattle.fractions.proofs.multiple.Multiple.multiplier.Goals as goal

pub returns-then-value_above-2 : goal.returns-then-value_above-2
returns-then-value_above-2 g c =
    let f = g.K.Kind.coords in
    let a = div-le_self c.args.self.l c.args.p in
    product-strays g.K.Kind.size c.args.self.l c.args.p (f c.args.g) c.args.self.within (f c.zero.result) (f c.add-product.result) _ (omega (arith, c.if-p-eq0.false)) (sym c.if-value_above.ensures) c.zero.ensures
    (g.met.K.Kind.laws.sized c.add-product.result) (to_z_pos w64 (c.args.self.l / c.args.p) (omega (arith, c.args.self.within))) c.add-product.ensures (sym c.if-value_above-2.ensures)

pub returns : goal.returns
returns g c =
    let f = g.K.Kind.coords in
    let a = div-le_self c.args.self.l c.args.p in
    product-stays g.K.Kind.size c.args.self.l c.args.p (f c.args.g) c.args.self.within (f c.zero.result) (f c.add-product.result) _ (omega (arith, c.if-p-eq0.false)) (sym c.if-value_above.ensures) c.zero.ensures
    (g.met.K.Kind.laws.sized c.add-product.result) (to_z_pos w64 (c.args.self.l / c.args.p) (omega (arith, c.args.self.within))) c.add-product.ensures (sym c.if-value_above-2.ensures)
