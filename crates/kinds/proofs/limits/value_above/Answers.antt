use Rattle.std.proofs.Common.{rules, ℕ, ◌+◌, Bool, ◌∙◌, ap, zero-add, arith}
use Rattle.std.proofs.lemmas.Iterator.Search.{any_from_yields_List}
use Rattle.std.proofs.lemmas.Iterator.{YieldsList-from_range}
use Rattle.whole.specs.Lists.{at}
use Rattle.whole.specs.Tests.{above}
use Rattle.whole.proofs.Tests.{any_ext}
use Rattle.whole.proofs.Chains.{any_range}
use Rattle.kinds.proofs.limits.value_above.Goals as goal

pub returns : goal.returns
returns g c =
    let n = g.K.Kind.size in
    let p : ℕ → Bool = λ k. above c.args.most (at (g.K.Kind.coords c.args.v) k) in
    any_from_yields_List p c.any.new.self _ _ c.any.ensures.ran (YieldsList-from_range 0 n n (cc) (omega arith)) (λ x b q k. search rules)
    ∙ any_range p 0 n
    ∙ any_ext n (λ i. p (0 + i)) p (λ i l. ap p (zero-add i))
