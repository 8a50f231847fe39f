use Rattle.std.proofs.Common.{map, ℤ, ap, ◌∙◌, w64}
use Rattle.std.proofs.lemmas.Int.{to_z-of_z}
use Rattle.whole.specs.Lists.{at}
use Rattle.whole.proofs.Tests.{any_ext}
use Rattle.sheets.specs.Gap.{gap_at}
use Rattle.sheets.proofs.Gaps.{gap_differs}
use Rattle.sheets.proofs.record.binding.untrue.Goals as goal

pub returns : goal.returns
returns g c =
    let f = g.K.Kind.coords in
    let vs = map f c.args.values.now in
    let cs = c.args.coefficients.now in
    let q = f c.args.q in
    let read = to_z-of_z w64 c.args.d c.ranges.d in
    c.value_above.ensures
    ∙ any_ext g.K.Kind.size _ _ (λ k _. gap_differs c.args.n c.args.d vs cs q (at (f c.gap.result) k) k (c.gap.ensures k ∙ ap (λ (d : ℤ). gap_at c.args.n d vs cs q k) read))
