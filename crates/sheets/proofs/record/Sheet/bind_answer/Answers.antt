use Rattle.std.proofs.Common.{map, ℤ, sym, ap, ◌∙◌, arith, w64}
use Rattle.std.proofs.lemmas.Int.{to_z-of_z}
use Rattle.std.proofs.lemmas.Bool.{or_parts}
use Rattle.whole.proofs.Sizes.{fits}
use Rattle.rules.specs.Sheets.{unfit_values}
use Rattle.sheets.specs.Shown.{numbers}
use Rattle.sheets.proofs.Fit.{fit, long}
use Rattle.sheets.proofs.record.Sheet.bind_answer.Goals as goal

pub untrue-requires : goal.untrue-requires
untrue-requires g c =
    let f = g.K.Kind.coords in
    let size = g.K.Kind.size in
    let s = c.args.self.now in
    let vs = c.args.values.now in
    let fine = sym c.if-unfit.ensures in
    let t = long f size (numbers s) vs c.args.relations.now c.args.constants.now fine in
    let h = (fit size (numbers s) (map f vs) c.args.relations.now (map f c.args.constants.now) fine).0 in
    let read = to_z-of_z w64 s.denominator (fits s.denominator (omega (arith, h.high))) in
    record {
      few = s.few;
      room = t.values_long;
      long = c.if-coefficients-self.false;
      small = sym c.if-bad_coefficients.ensures;
      values = ap (λ (d : ℤ). unfit_values size s.count d (map f vs)) read ∙ (or_parts (unfit_values size s.count s.denominator (map f vs)) _ fine).0;
      constant = sym c.if-bad_constant.ensures;
    }
