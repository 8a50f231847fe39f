use Rattle.std.proofs.Common.{eqb, length, Decides, sym, refl, subst}
use Rattle.std.specs.Cmp.Lexicographic.{pointwise}
use Rattle.std.proofs.lemmas.Bool.Decides.{Decides-eqb}
use Rattle.std.proofs.lemmas.Slice.Eq.{slice_eq-Decides}
use Rattle.heading.specs.Names.{Has, texts}
use Rattle.heading.proofs.Rows.{has_told}
use Rattle.heading.proofs.name.holds.Goals as goal

pub returns : goal.returns
returns c =
    let names = c.args.names.now in
    let name = c.args.name.now in
    subst (λ r. Decides r (Has (texts names) (length names) name)) (sym c.contains.ensures.value)
    (has_told (λ y. pointwise eqb y.now name) name (λ y. slice_eq-Decides Decides-eqb y.now name _ refl) names)
