use Rattle.std.proofs.Common.{◌≡◌, ℤ, pos, sym, ap, ◌∙◌, w64, to_z}
use Rattle.std.proofs.lemmas.Int.{to_z-of_z}
use Rattle.fractions.specs.Steps.{plus}
use Rattle.fractions.proofs.Adding.{plus-nothing}
use Rattle.fractions.proofs.steps.add.Goals as goal

pub returns-then-k-eq0 : goal.returns-then-k-eq0
returns-then-k-eq0 g c =
    let f = g.K.Kind.coords in
    let z : c.args.k ≡ pos 0 = sym (to_z-of_z w64 c.args.k c.ranges.k) ∙ ap (to_z w64) c.if-k-eq0.true in
    sym (ap (λ (k : ℤ). plus (f c.args.u) k (f c.args.v)) z ∙ plus-nothing (f c.args.u) (f c.args.v))
