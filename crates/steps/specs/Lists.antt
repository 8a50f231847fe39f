-- The lists of a desk before anything is written in them: zeros, as long as any sheet needs.
use Rattle.std.specs.Prelude.{◌≡◌, ℕ, List, map, length, replicate, pos, vec_items}
use Rattle.records.specs.declared.relation.Mark.TheVariants.{Idle}
use Rattle.records.specs.declared.relation.Relation.{Relation}
use Rattle.rules.specs.Limits.{most_parameters, most_relations, most_counted, working_places}
use Rattle.rules.specs.Values.{Coords, zeros}
use Rattle.steps.specs.declared.lists.Lists.{Lists}

-- A list by parameter, one by relation, and the working values.
unfoldable pub by_parameter : ℕ → List Coords
by_parameter size = zeros most_parameters size

unfoldable pub by_relation : ℕ → List Coords
by_relation size = zeros most_relations size

unfoldable pub by_working : ℕ → List Coords
by_working size = zeros working_places size

-- The list of relations: no coefficient but 0, and no mark but idle.
unfoldable pub no_relations : List Relation
no_relations = replicate most_relations (record { coefficients = replicate most_parameters (pos 0); mark = Idle })

pub record Fresh {K : Type 0} (size : ℕ) (coords : K → Coords) (l : Lists K) : Type 0 where
  pub values : map coords (vec_items l.values) ≡ by_parameter size
  pub relations : vec_items l.relations ≡ no_relations
  pub constants : map coords (vec_items l.constants) ≡ by_relation size
  pub proposal : map coords (vec_items l.proposal) ≡ by_parameter size
  pub working : map coords (vec_items l.working) ≡ by_working size
  pub spare : length (vec_items l.spare) ≡ most_counted
