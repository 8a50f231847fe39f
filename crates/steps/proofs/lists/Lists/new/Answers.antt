use Rattle.std.proofs.Common.{rules}
use Rattle.steps.specs.Lists.{by_parameter, by_relation, by_working, no_relations}
use Rattle.steps.proofs.lists.Lists.new.Goals as goal

pub returns : goal.returns
unfolding by_parameter by_relation by_working no_relations
returns g c = record {
  values = c.in_ok-zeros_of.ensures;
  relations = c.in_ok-vec.ensures.items_if_clones_equal (λ y h. h);
  constants = c.in_ok-zeros_of-2.ensures;
  proposal = c.in_ok-zeros_of-3.ensures;
  working = c.in_ok-zeros_of-4.ensures;
  spare = search rules;
}
