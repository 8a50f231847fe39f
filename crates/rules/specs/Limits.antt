-- The limits on a sheet's numbers. A step is 0.025 mm.
use Rattle.std.specs.Prelude.{ℕ}

-- parameters of a sheet
abbrev pub most_parameters : ℕ
most_parameters = 48

-- bound relations of a sheet, and places of a list by relation
abbrev pub most_relations : ℕ
most_relations = 24

-- loose parameters of a grip
abbrev pub most_loose : ℕ
most_loose = 24

-- relations that count in a grip, and places of the spare list
abbrev pub most_counted : ℕ
most_counted = 12

-- places of the working values
abbrev pub working_places : ℕ
working_places = 24

-- steps from the sheet's origin along an axis: 1,189 mm
abbrev pub most_steps : ℕ
most_steps = 47560

abbrev pub most_denominator : ℕ
most_denominator = 45000

abbrev pub most_coefficient : ℕ
most_coefficient = 1000

-- 1,000 times the most steps
abbrev pub most_constant : ℕ
most_constant = 47560000

-- a coordinate of a residual
abbrev pub most_residual : ℕ
most_residual = 300000000

-- a coordinate of a multiplier
abbrev pub most_multiplier : ℕ
most_multiplier = 1000000000000
