use Rattle.std.proofs.Common.{nat_abs, sym, ap, ◌∙◌, arith, w64}
use Rattle.std.proofs.lemmas.Int.{to_z-of_z}
use Rattle.rules.specs.Sheets.{bad_denominator}
use Rattle.fractions.proofs.Settled.{fitting, ended}
use Rattle.fractions.proofs.multiple.Multiple.settle.Goals as goal

pub nonzero_div-over : goal.nonzero_div-over
nonzero_div-over g c =
    let is = to_z-of_z w64 c.args.d c.ranges.d in
    (fitting g.K.Kind.coords g.K.Kind.size c.args.self.l c.args.d c.unsigned_abs.result c.divisor_over-h.result c.args.proposal.now c.args.self.some c.args.self.within
    (sym (c.if-bad_denominator.ensures ∙ ap bad_denominator is)) (c.unsigned_abs.ensures.value ∙ ap nat_abs is) c.divisor_over-h.ensures).0

pub overflow_cast-h : goal.overflow_cast-h
overflow_cast-h g c =
    let is = to_z-of_z w64 c.args.d c.ranges.d in
    let h = fitting g.K.Kind.coords g.K.Kind.size c.args.self.l c.args.d c.unsigned_abs.result c.divisor_over-h.result c.args.proposal.now c.args.self.some c.args.self.within
    (sym (c.if-bad_denominator.ensures ∙ ap bad_denominator is)) (c.unsigned_abs.ensures.value ∙ ap nat_abs is) c.divisor_over-h.ensures in
    record { sfits = omega (arith, h.1) }

pub returns-then-unfit_values : goal.returns-then-unfit_values
returns-then-unfit_values g c =
    let is = to_z-of_z w64 c.args.d c.ranges.d in
    ended g.K.Kind.coords g.K.Kind.size c.args.self.l c.args.d c.unsigned_abs.result c.divisor_over-h.result c.args.proposal.now c.args.self.some c.args.self.within
    (sym (c.if-bad_denominator.ensures ∙ ap bad_denominator is)) (c.unsigned_abs.ensures.value ∙ ap nat_abs is) c.divisor_over-h.ensures
    c.if-over-gt-MOST_DENOMINATOR.false c.divide_all.new.proposal c.divide_all.ensures _ c.if-unfit_values.ensures

pub returns : goal.returns
returns g c =
    let is = to_z-of_z w64 c.args.d c.ranges.d in
    ended g.K.Kind.coords g.K.Kind.size c.args.self.l c.args.d c.unsigned_abs.result c.divisor_over-h.result c.args.proposal.now c.args.self.some c.args.self.within
    (sym (c.if-bad_denominator.ensures ∙ ap bad_denominator is)) (c.unsigned_abs.ensures.value ∙ ap nat_abs is) c.divisor_over-h.ensures
    c.if-over-gt-MOST_DENOMINATOR.false c.divide_all.new.proposal c.divide_all.ensures _ c.if-unfit_values.ensures
