-- How a card writes lengths and points.
use Rattle.std.specs.Prelude.{◌≡◌, ℕ, List, ◌∷◌, ◌++◌}
use Rattle.kinds.specs.declared.length.Length.{Length}
use Rattle.kinds.specs.declared.point.Point.{Point}
use Rattle.words.specs.Numbers.{Number}

-- a length is its number
abbrev pub LengthForm : List ℕ → Length → Type 0
LengthForm w v = Number w v.x

-- a point is two numbers joined by a comma
pub record PointForm (w : List ℕ) (p : Point) : Type 0 where
  pub first : List ℕ
  pub second : List ℕ
  pub comma : w ≡ first ++ 44 ∷ second
  pub left : Number first p.x
  pub right : Number second p.y
