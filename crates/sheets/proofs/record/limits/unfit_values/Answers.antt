use Rattle.std.proofs.Common.{ℕ, ◌*◌, map, ℤ, nat_abs, sym, ap, ◌∙◌, w64}
use Rattle.std.proofs.lemmas.List.{length-map}
use Rattle.std.proofs.lemmas.Int.{to_z-of_z}
use Rattle.std.proofs.lemmas.Bool.{le-ltb}
use Rattle.whole.specs.Lists.{coord}
use Rattle.whole.specs.Tests.{any, above}
use Rattle.sheets.proofs.Sizes.{front_above}
use Rattle.rules.specs.Sheets.{bad_denominator}
use Rattle.sheets.proofs.record.limits.unfit_values.Goals as goal

pub returns : goal.returns
returns g c =
    let f = g.K.Kind.coords in
    let size = g.K.Kind.size in
    let vs = c.args.values.now in
    let long = length-map vs f in
    let read = to_z-of_z w64 c.args.d c.ranges.d in
    let enough = le-ltb _ _ c.if-values-n.false in
    let fine = ap bad_denominator (sym read) ∙ sym c.if-bad_denominator.ensures in
    let reached = c.reach.ensures ∙ ap (λ (z : ℤ). 47560 * nat_abs z) read in
    let tested = c.values_above.ensures ∙ front_above f size c.args.n c.reach.result vs c.if-values-n.false
    ∙ ap (λ (k : ℕ). any c.args.n (λ s. any size (λ x. above k (coord (map f vs) s x)))) reached in
    rw (long, enough, fine) tested
