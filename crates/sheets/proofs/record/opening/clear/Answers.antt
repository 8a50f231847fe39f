use Rattle.std.proofs.Common.{rules, ℕ, ap, ◌∙◌}
use Rattle.rules.specs.Values.{zeros}
use Rattle.sheets.proofs.Writing.{filled}
use Rattle.sheets.proofs.record.opening.clear.Goals as goal

pub returns : goal.returns
returns g c =
    let size = g.K.Kind.size in
    filled g.K.Kind.coords size _ (λ p x q k. search rules) _ c.fill_with.new.self _ c.fill_with.ensures.ran.1
    ∙ ap (λ (n : ℕ). zeros n size) c.fill_with.ensures.len
