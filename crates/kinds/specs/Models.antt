-- Lengths and points by their coordinates.
use Rattle.std.specs.Prelude.{List, [], ◌∷◌, ℤ}
use Rattle.kinds.specs.declared.length.Length.{Length}
use Rattle.kinds.specs.declared.point.Point.{Point}

abbrev pub length_coords : Length → List ℤ
length_coords v = v.x ∷ []

abbrev pub point_coords : Point → List ℤ
point_coords v = v.x ∷ v.y ∷ []
