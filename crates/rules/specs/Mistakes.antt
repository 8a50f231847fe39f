-- Three quiet mistakes: what the rules say where each of them would say something else.
use Rattle.std.specs.Prelude.{◌≡◌, ℕ, true, false, List, [], ◌∷◌, ℤ, pos, ◌-ℤ◌, ◌*ℤ◌, Ok, Result}
use Rattle.whole.specs.Lists.{coord}
use Rattle.whole.specs.Sums.{sum_below}
use Rattle.linear.specs.Elimination.{Grid}
use Rattle.records.specs.declared.refusal.Refusal.{Refusal}
use Rattle.records.specs.declared.role.Role.{Role}
use Rattle.records.specs.declared.role.Role.TheVariants.{Pulled}
use Rattle.rules.specs.Values.{Coords, grid}
use Rattle.rules.specs.Sheets.{Bond, unfit_values}
use Rattle.rules.specs.Gripping.{role, coef, shares}
use Rattle.rules.specs.Pulling.{Placing, const, if_held, if_moving, far_wish, residuals, carried, solved}
use Rattle.rules.specs.Calls.{untrue}
use Rattle.rules.specs.Worked.{neg, lengths, weight, of_lengths}

-- The limit is not 48,000: a value of 47,560 is on the sheet, one of 47,561 is not, as a kept value and as a wish.
abbrev pub Limit : Type 0
Limit =
    (unfit_values 1 1 (pos 1) (lengths (pos 47560 ∷ [])) ≡ false)
    × (unfit_values 1 1 (pos 1) (lengths (pos 47561 ∷ [])) ≡ true)
    × (far_wish 1 1 (Pulled ∷ []) (lengths (pos 47560 ∷ [])) ≡ false)
    × (far_wish 1 1 (Pulled ∷ []) (lengths (pos 47561 ∷ [])) ≡ true)

-- a - 2b + c = 0
abbrev pub middle : Bond
middle = of_lengths (pos 1 ∷ neg 2 ∷ pos 1 ∷ [])

-- A proposal is not rounded: 5, 2, -1 over 5 meets the relation, the whole steps 1, 0, 0 nearest to it do not.
abbrev pub Rounded : Type 0
Rounded = (untrue 1 3 (pos 5) (lengths (pos 5 ∷ pos 2 ∷ neg 1 ∷ [])) middle ≡ false) × (untrue 1 3 (pos 1) (lengths (pos 1 ∷ pos 0 ∷ pos 0 ∷ [])) middle ≡ true)

-- The residual with the denominator left off the wishes.
abbrev pub undivided : ℕ → ℕ → List Role → List Bond → ℤ → List Coords → List Coords → List Coords
undivided size n roles bs d values wishes = grid 1 size (λ i c.
    d *ℤ const bs i c -ℤ sum_below n (λ s. if_moving (role roles s) (coef bs i s *ℤ coord wishes s c)) -ℤ sum_below n (λ s. if_held (role roles s) (coef bs i s *ℤ coord values s c)))

abbrev pub roles : List Role
roles = Pulled ∷ weight 1 ∷ weight 1 ∷ []

abbrev pub kept : List Coords
kept = lengths (pos 5 ∷ pos 2 ∷ neg 1 ∷ [])

abbrev pub wishes : List Coords
wishes = lengths (pos 2 ∷ pos 0 ∷ pos 0 ∷ [])

abbrev pub a_table : Grid
a_table = (pos 60 ∷ pos 1 ∷ []) ∷ []

-- From residuals to the proposal, on 5, 2, -1 over 5 with a pulled to 2.
abbrev pub proposal_from : List Coords → Result Placing Refusal
proposal_from cs = solved 1 3 roles (shares 3 roles) (middle ∷ []) a_table (pos 5) kept wishes (carried 1 1 a_table cs)

-- With d on the wishes the proposal is 10, 4, -2 over 5, which meets the relation; with d left off it is another, which does not.
abbrev pub Denominator : Type 0
Denominator =
    (proposal_from (residuals 1 3 roles (middle ∷ []) (pos 5) kept wishes) ≡ Ok (record { over = pos 5; nums = lengths (pos 10 ∷ pos 4 ∷ neg 2 ∷ []) }))
    × (untrue 1 3 (pos 5) (lengths (pos 10 ∷ pos 4 ∷ neg 2 ∷ [])) middle ≡ false)
    × (proposal_from (undivided 1 3 roles (middle ∷ []) (pos 5) kept wishes) ≡ Ok (record { over = pos 25; nums = lengths (pos 50 ∷ pos 4 ∷ neg 2 ∷ []) }))
    × (untrue 1 3 (pos 25) (lengths (pos 50 ∷ pos 4 ∷ neg 2 ∷ [])) middle ≡ true)
