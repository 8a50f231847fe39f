-- The relations that are marked spare.
use Rattle.std.specs.Prelude.{ℕ, zero, suc, cond, List, [], ◌∷◌, ◌++◌}
use Rattle.records.specs.declared.relation.Relation.{Relation}
use Rattle.rules.specs.Sheets.{relation_at}
use Rattle.rules.specs.Gripping.{is_spare}

-- The numbers below k of the relations of a list that are marked spare.
abbrev pub spare_marks : List Relation → ℕ → List ℕ
spare_marks rs zero = []
spare_marks rs (suc i) = spare_marks rs i ++ cond (is_spare (relation_at rs i).mark) (i ∷ []) []
