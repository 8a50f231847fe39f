use Rattle.std.proofs.Common.{rules, not, ap, ◌∙◌}
use Rattle.std.proofs.lemmas.Iterator.Search.{any_from_yields_List}
use Rattle.std.proofs.lemmas.Iterator.{YieldsList-from_slice}
use Rattle.whole.proofs.Chains.{any_list}
use Rattle.records.specs.declared.role.Role.TheVariants.{Held}
use Rattle.rules.specs.Gripping.{is_pulled}
use Rattle.roles.proofs.none_pulled.Goals as goal

pub returns : goal.returns
returns c = ap not (any_from_yields_List is_pulled _ _ _ c.any.ensures.ran (YieldsList-from_slice c.args.roles.now cc) (λ x b q k. search rules) ∙ any_list is_pulled Held c.args.roles.now)
