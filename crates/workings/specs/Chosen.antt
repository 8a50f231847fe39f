-- The relations as a grip reads them.
use Rattle.std.specs.Prelude.{ℕ, Bool, ◌||◌, List, [], map, length, Result, nat_lt}
use Rattle.whole.specs.Tests.{any}
use Rattle.records.specs.declared.refusal.Refusal.{Refusal}
use Rattle.records.specs.declared.refusal.Refusal.TheVariants.{Unfit}
use Rattle.records.specs.Outcomes.{guard}
use Rattle.records.specs.declared.relation.Relation.{Relation}
use Rattle.records.specs.declared.role.Role.{Role}
use Rattle.rules.specs.Limits.{most_parameters}
use Rattle.rules.specs.Gripping.{counted}
use Rattle.rules.specs.Sheets.{Bond, Workings, bond, relation_at, bad_coefs}
use Rattle.rules.specs.Calls.{grip_on}

-- Relations without their constants, for n parameters.
abbrev pub bare : ℕ → List Relation → List Bond
bare n rs = map (λ r. bond n r.coefficients []) rs

-- There are more roles than a sheet has parameters, or a coefficient of theirs is out of range.
abbrev pub unready : List Relation → List Role → Bool
unready rs roles = nat_lt most_parameters (length roles) || any (length rs) (λ i. bad_coefs (length roles) (relation_at rs i).coefficients)

-- Those of them that count.
abbrev pub countable : List Relation → List Role → List Bond
countable rs roles = counted (length roles) roles (bare (length roles) rs)

-- The workings of a grip on these relations, one role to a parameter, or the refusal.
abbrev pub gripped : List Relation → List Role → Result Workings Refusal
gripped rs roles = guard (unready rs roles) Unfit (grip_on (length roles) roles (bare (length roles) rs))
