use Rattle.std.proofs.Common.{rules, not, refl, ap, ◌∙◌, pos}
use Rattle.std.proofs.lemmas.Iterator.Search.{any_from_yields_List}
use Rattle.std.proofs.lemmas.Iterator.{YieldsList-from_slice, YieldsList-from_take}
use Rattle.whole.specs.Tests.{nonzero}
use Rattle.whole.proofs.Chains.{any_take}
use Rattle.sheets.proofs.record.binding.all_zero.Goals as goal

pub returns : goal.returns
returns c =
    ap not (any_from_yields_List nonzero c.any.new.self _ _ c.any.ensures.ran (YieldsList-from_take c.args.n (YieldsList-from_slice c.args.coefficients.now cc) cc) (λ x b q k. search rules)
    ∙ any_take nonzero (pos 0) c.args.n c.args.coefficients.now refl)
