use Rattle.std.proofs.Common.{rules, ◌∙◌, []}
use Rattle.std.proofs.lemmas.Iterator.Search.{any_from_yields_List}
use Rattle.std.proofs.lemmas.Iterator.{YieldsList-from_slice}
use Rattle.whole.specs.Lists.{at}
use Rattle.whole.specs.Tests.{any, above}
use Rattle.whole.proofs.Chains.{any_map}
use Rattle.kinds.proofs.limits.values_above.Goals as goal

pub returns : goal.returns
returns g c =
    any_from_yields_List (λ v. any g.K.Kind.size (λ k. above c.args.most (at (g.K.Kind.coords v) k))) _ _ _ c.any.ensures.ran (YieldsList-from_slice c.args.vs.now cc) (λ x b q k. search rules)
    ∙ any_map g.K.Kind.coords (λ us. any g.K.Kind.size (λ k. above c.args.most (at us k))) [] c.args.vs.now
