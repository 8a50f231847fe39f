use Rattle.std.proofs.Common.{List, [], ℤ, ◌∙◌, rules}
use Rattle.std.proofs.lemmas.Iterator.{YieldsList-from_slice}
use Rattle.std.proofs.lemmas.Iterator.Search.{any_from_yields_List}
use Rattle.whole.specs.Lists.{at}
use Rattle.whole.specs.Tests.{any, above}
use Rattle.whole.proofs.Chains.{any_list}
use Rattle.table.proofs.limits.some_row_above.Goals as goal

pub returns : goal.returns
returns c =
    let test = λ (xs : List ℤ). any c.args.n (λ s. above c.args.most (at xs s)) in
    any_from_yields_List test _ _ _ c.any.ensures.ran (YieldsList-from_slice c.args.rows.now cc) (λ x b q k. search rules) ∙ any_list test [] c.args.rows.now
