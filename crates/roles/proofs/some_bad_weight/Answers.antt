use Rattle.std.proofs.Common.{rules, ◌∙◌}
use Rattle.std.proofs.lemmas.Iterator.Search.{any_from_yields_List}
use Rattle.std.proofs.lemmas.Iterator.{YieldsList-from_slice}
use Rattle.whole.proofs.Chains.{any_list}
use Rattle.records.specs.declared.role.Role.TheVariants.{Held}
use Rattle.rules.specs.Gripping.{bad_weight}
use Rattle.roles.proofs.some_bad_weight.Goals as goal

pub returns : goal.returns
returns c = any_from_yields_List bad_weight _ _ _ c.any.ensures.ran (YieldsList-from_slice c.args.roles.now cc) (λ x b q k. search rules) ∙ any_list bad_weight Held c.args.roles.now
