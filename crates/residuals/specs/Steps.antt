-- The steps of a residual and of a row at one value, by coordinates.
use Rattle.std.specs.Prelude.{ℕ, ◌/◌, ◌&&◌, List, ℤ, pos, ◌-ℤ◌, ◌*ℤ◌, neg_ℤ, Ok, Result, ◌==◌}
use Rattle.whole.specs.Lists.{at, coord}
use Rattle.whole.specs.Sums.{sum_below}
use Rattle.whole.specs.Tests.{any, nonzero}
use Rattle.records.specs.Outcomes.{guard}
use Rattle.records.specs.declared.refusal.Refusal.{Refusal}
use Rattle.records.specs.declared.refusal.Refusal.TheVariants.{Impossible}
use Rattle.records.specs.declared.role.Role.{Role}
use Rattle.records.specs.declared.role.Role.TheVariants.{Held, Pulled, Loose}
use Rattle.rules.specs.Values.{Coords}
use Rattle.rules.specs.Gripping.{role}
use Rattle.rules.specs.Pulling.{if_held, if_moving}
use Rattle.fractions.specs.Steps.{divisor_from, quotients}

-- A diagonal number p and what its row carries, in lowest terms; a spare row must carry zero.
abbrev pub lower : ℕ → ℕ → Coords → Result (ℕ × Coords) Refusal
lower size p us = let h = divisor_from p us in guard (p == 0 && any size (λ c. nonzero (at us c))) Impossible (Ok (p / h, quotients size us (pos h)))

-- What a parameter's term is subtracted by: its coefficient where it is held, and d × its coefficient elsewhere.
abbrev pub factor : Role → ℤ → ℤ → ℤ
factor Held d a = neg_ℤ a
factor Pulled d a = neg_ℤ (d *ℤ a)
factor (Loose w) d a = neg_ℤ (d *ℤ a)

-- The kept value of a held parameter, and the wish of another.
abbrev pub taken : Role → Coords → Coords → Coords
taken Held wish value = value
taken Pulled wish value = wish
taken (Loose w) wish value = wish

-- A number less the terms of the first n parameters at coordinate c.
abbrev pub less_terms : ℕ → List Role → ℤ → List Coords → List Coords → List ℤ → ℕ → ℤ → ℤ
less_terms n roles d values wishes cs c x =
    x -ℤ d *ℤ sum_below n (λ s. if_moving (role roles s) (at cs s *ℤ coord wishes s c)) -ℤ sum_below n (λ s. if_held (role roles s) (at cs s *ℤ coord values s c))

-- One relation's residual at coordinate c.
abbrev pub residual_at : ℕ → List Role → ℤ → List Coords → List Coords → List ℤ → Coords → ℕ → ℤ
residual_at n roles d values wishes cs q c = less_terms n roles d values wishes cs c (d *ℤ at q c)

-- The sum of row[j] × residual j at coordinate c.
abbrev pub carried_at : ℕ → List ℤ → List Coords → ℕ → ℤ
carried_at m row cs c = sum_below m (λ j. at row j *ℤ coord cs j c)
