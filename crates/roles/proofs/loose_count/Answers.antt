use Rattle.std.proofs.Common.{rules, ◌≡◌, ◌∙◌}
use Rattle.std.specs.List.{count_by}
use Rattle.whole.proofs.Chains.{tally_list}
use Rattle.records.specs.declared.role.Role.TheVariants.{Held}
use Rattle.rules.specs.Gripping.{is_loose}
use Rattle.roles.proofs.loose_count.Goals as goal

pub returns : goal.returns
returns c = chain ∙ tally_list is_loose Held c.args.roles.now
  where
    chain : c.count.result ≡ count_by is_loose c.args.roles.now
    chain = search rules
