-- A sheet: its own numbers, and the lists that its caller lends.
use Rattle.std.specs.Prelude.{ℕ, ◌*◌, Bool, ◌||◌, List, [], length, take, ℤ, pos, int_lt, nat_lt, slice_index_or, unsigned_abs}
use Rattle.whole.specs.Lists.{tab, at, coord}
use Rattle.whole.specs.Tests.{any, above}
use Rattle.records.specs.declared.relation.Mark.TheVariants.{Idle}
use Rattle.records.specs.declared.relation.Relation.{Relation}
use Rattle.records.specs.declared.role.Role.{Role}
use Rattle.rules.specs.Limits.{most_relations, most_steps, most_denominator, most_coefficient, most_constant}
use Rattle.rules.specs.Values.{Coords}

-- How many parameters, how many bound relations, and the one denominator of the values.
pub record Sheet : Type 0 where
  pub count : ℕ
  pub bound : ℕ
  pub d : ℤ

-- A relation with its constant: the sum of coefficient × value equals the constant.
pub record Bond : Type 0 where
  pub coefs : List ℤ
  pub constant : Coords

-- The relation that a list of coefficients and a constant make, for n parameters.
abbrev pub bond : ℕ → List ℤ → Coords → Bond
bond n cs q = record { coefs = take n cs; constant = q }

abbrev pub no_bond : Bond
no_bond = record { coefs = []; constant = [] }

abbrev pub relation_at : List Relation → ℕ → Relation
relation_at rs i = slice_index_or rs i (record { coefficients = []; mark = Idle })

-- The bound relations in bound order, from the lists of relations and constants.
abbrev pub bonds : Sheet → List Relation → List Coords → List Bond
bonds s rs qs = tab s.bound (λ i. bond s.count (relation_at rs i).coefficients (slice_index_or qs i []))

-- What a grip hands to each pull. A row of the table is m numbers, then m more; v(s) is 0 where s is not loose.
pub record Workings : Type 0 where
  pub count : ℕ
  pub m : ℕ
  pub table : List (List ℤ)
  pub roles : List Role
  pub shares : List ℤ

-- A denominator is from 1 to 45,000.
abbrev pub bad_denominator : ℤ → Bool
bad_denominator d = int_lt d (pos 1) || int_lt (pos most_denominator) d

-- A coordinate of a numerator over d is at most 47,560 × d in size.
abbrev pub bad_values : ℕ → ℕ → ℤ → List Coords → Bool
bad_values size n d us = any n (λ s. any size (λ c. above (most_steps * unsigned_abs d) (coord us s c)))

-- A coefficient is from -1,000 to 1,000.
abbrev pub bad_coefs : ℕ → List ℤ → Bool
bad_coefs n cs = any n (λ s. above most_coefficient (at cs s))

-- A coordinate of a constant is at most 47,560,000 in size.
abbrev pub bad_constant : ℕ → Coords → Bool
bad_constant size q = any size (λ c. above most_constant (at q c))

abbrev pub bad_relation : ℕ → ℕ → Relation → Coords → Bool
bad_relation size n r q = bad_coefs n r.coefficients || bad_constant size q

-- The list of values is short for n parameters, or a number of theirs breaks its limit.
abbrev pub unfit_values : ℕ → ℕ → ℤ → List Coords → Bool
unfit_values size n d us = nat_lt (length us) n || bad_denominator d || bad_values size n d us

-- A list by relation is short, or a number of a bound relation breaks its limit.
abbrev pub unfit_relations : ℕ → Sheet → List Relation → List Coords → Bool
unfit_relations size s rs qs = nat_lt (length rs) most_relations || nat_lt (length qs) most_relations
    || any s.bound (λ i. bad_relation size s.count (relation_at rs i) (slice_index_or qs i []))

abbrev pub unfit : ℕ → Sheet → List Coords → List Relation → List Coords → Bool
unfit size s vs rs qs = unfit_values size s.count s.d vs || unfit_relations size s rs qs
