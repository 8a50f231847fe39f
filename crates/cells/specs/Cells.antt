-- The cells of a grip.
use Rattle.std.specs.Prelude.{◌≡◌, ℕ, List, [], ◌∷◌, ℤ, pos}
use Rattle.records.specs.declared.role.Role.{Role}
use Rattle.records.specs.declared.role.Role.TheVariants as r
use Rattle.words.specs.Numbers.{Number}
use Rattle.cells.specs.declared.cell.Cell.{Cell}
use Rattle.cells.specs.declared.cell.Cell.TheVariants.{Held, Pulled, Loose, Weighted}

-- held `.`, pulled `*`, loose at the default weight `~`, loose otherwise as the weight; the written default weight is a weight too
abbrev pub CellForm : List ℕ → Cell → Type 0
CellForm w Held = w ≡ 46 ∷ []
CellForm w Pulled = w ≡ 42 ∷ []
CellForm w Loose = w ≡ 126 ∷ []
CellForm w (Weighted n) = Number w n

-- the cells that a mark writes
abbrev pub Marked : List ℕ → Cell → Type 0
Marked w Held = CellForm w Held
Marked w Pulled = CellForm w Pulled
Marked w Loose = CellForm w Loose
Marked w (Weighted n) = ⊥

-- the cells that a number writes
abbrev pub Weighed : List ℕ → Cell → Type 0
Weighed w Held = ⊥
Weighed w Pulled = ⊥
Weighed w Loose = ⊥
Weighed w (Weighted n) = CellForm w (Weighted n)

-- the weight of a loose parameter whose weight is not written
abbrev pub default_weight : ℤ
default_weight = pos 1

-- the role that a cell gives its parameter
abbrev pub role_of : Cell → Role
role_of Held = r.Held
role_of Pulled = r.Pulled
role_of Loose = r.Loose default_weight
role_of (Weighted n) = r.Loose n
