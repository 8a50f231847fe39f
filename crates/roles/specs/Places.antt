-- Which of a list's relations count.
use Rattle.std.specs.Prelude.{ℕ, zero, suc, Bool, cond, List, [], ◌∷◌, ◌++◌, length}
use Rattle.records.specs.declared.relation.Relation.{Relation}
use Rattle.records.specs.declared.role.Role.{Role}
use Rattle.rules.specs.Sheets.{relation_at}
use Rattle.rules.specs.Gripping.{counts}

-- Relation i counts by the roles.
abbrev pub counting : List Role → List Relation → ℕ → Bool
counting roles rs i = counts (length roles) roles (relation_at rs i).coefficients

-- The numbers below k of the relations that count, in bound order.
abbrev pub places : List Role → List Relation → ℕ → List ℕ
places roles rs zero = []
places roles rs (suc k) = places roles rs k ++ cond (counting roles rs k) (k ∷ []) []
