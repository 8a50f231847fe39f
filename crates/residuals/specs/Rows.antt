-- The relations that count, by their numbers.
use Rattle.std.specs.Prelude.{◌≡◌, ℕ, ◌<◌, false, List, [], map, length, slice_index, slice_index_or}
use Rattle.records.specs.declared.relation.Relation.{Relation}
use Rattle.rules.specs.Values.{Coords}
use Rattle.rules.specs.Sheets.{Bond, bond, relation_at, bad_coefs, bad_constant}

-- The relations with these numbers, for n parameters.
abbrev pub chosen : ℕ → List Relation → List Coords → List ℕ → List Bond
chosen n rs qs rows = map (λ j. bond n (relation_at rs j).coefficients (slice_index_or qs j [])) rows

-- Each of these relations is in the lists, and breaks no limit.
pub record Fine (size n : ℕ) (rs : List Relation) (qs : List Coords) (rows : List ℕ) : Type 0 where
  pub inside : (i : ℕ) → i < length rows → slice_index rows i < length rs
  pub known : (i : ℕ) → i < length rows → slice_index rows i < length qs
  pub small : (i : ℕ) → i < length rows → bad_coefs n (relation_at rs (slice_index rows i)).coefficients ≡ false
  pub constant : (i : ℕ) → i < length rows → bad_constant size (slice_index_or qs (slice_index rows i) []) ≡ false
