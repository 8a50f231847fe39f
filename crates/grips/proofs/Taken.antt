-- What an accepted grip leaves in the lists of relations and of spare numbers.
use Rattle.std.proofs.Common.{◌≡◌, ℕ, ◌≤◌, List, [], ◌++◌, length, get_or, take, drop, sym, ap, ◌∙◌, ap₂, zero-add, arith}
use Rattle.std.proofs.lemmas.List.Edits.{take-paste, drop-paste}
use Rattle.std.proofs.lemmas.List.Sorted.{IsPermutation-refl}
use Rattle.std.proofs.lemmas.List.{length-append, length-take-le, take_all}
use Rattle.records.specs.declared.relation.Relation.{Relation}
use Rattle.records.specs.declared.role.Role.{Role}
use Rattle.whole.proofs.Lists.{tab-length}
use Rattle.rules.specs.Values.{Coords, written}
use Rattle.rules.specs.Sheets.{Sheet, Bond, bond, bonds, relation_at, Workings}
use Rattle.rules.specs.Gripping.{counted, row_of, marked}
use Rattle.rules.specs.Calls.{Listed, spare_numbers}
use Rattle.law.proofs.Facts.{row_is}
use Rattle.workings.specs.Chosen.{bare}
use Rattle.grips.specs.Spares.{spare_marks}
use Rattle.grips.proofs.Answering.{Accepted}
use Rattle.grips.proofs.Stripped.{marked_strip}
use Rattle.workings.proofs.Bonds.{bare_strip}
use Rattle.grips.proofs.Listing.{spare_marks-front, spares-marked, spares-few}
use Rattle.grips.proofs.Marking.{marked_front}

-- The first k numbers of a list that was written from the front.
pub listed : (numbers before after : List ℕ) (k : ℕ) → k ≡ length numbers → k ≤ length before → after ≡ written k numbers before → Listed numbers k before after
listed numbers before after k many room is =
    let z = zero-add k in
    let front : take k after ≡ numbers = ap₂ take (sym z) is ∙ take-paste before 0 numbers k (omega arith) (omega arith) ∙ take_all k numbers (omega arith) in
    let back : drop k after ≡ drop k before = ap₂ drop (sym z) is ∙ drop-paste before 0 numbers k (omega arith) (omega arith) ∙ ap (λ (j : ℕ). drop j before) z in
    record { many = many; these = rw front (IsPermutation-refl numbers); beyond = back }

module _ (size : ℕ) (s : Sheet) (vs : List Coords) (rs : List Relation) (qs : List Coords) (roles : List Role) (spare : List ℕ) (w : Workings) (told : Accepted size s vs rs qs roles spare w) (rows : s.bound ≤ length rs)
    (b : ℕ) (is : b ≡ s.bound) (front : List Relation) (long : length front ≡ length (take b rs)) (marked-as : front ≡ marked w.count w.roles (bare w.count (take b rs)) w.table (take b rs)) where
  abbrev bs : List Bond
  bs = bonds s rs qs

  abbrev after : List Relation
  after = front ++ drop b rs

  -- the marks are those of the definition
  pub marks : after ≡ marked s.count w.roles bs w.table rs
  marks =
      ap (λ (l : List Relation). l ++ drop b rs) marked-as
      ∙ marked_front w.count w.roles w.table b rs (omega arith)
      ∙ (λ t. marked (told.count_is t) w.roles (bare (told.count_is t) (take (is t) rs)) w.table rs)
      ∙ ap (λ (l : List Bond). marked s.count w.roles l w.table rs) (bare_strip s rs qs rows)
      ∙ marked_strip s.count w.roles bs w.table rs

  -- the bound relations as they are marked
  abbrev bound_now : List Relation
  bound_now = take b after

  -- and so are the numbers of the spare relations
  pub numbered : spare_marks bound_now (length bound_now) ≡ spare_numbers w s rs qs
  numbered =
      ap (spare_marks bound_now) (length-take-le b after (omega (arith, length-append front (drop b rs), length-take-le b rs (omega arith))))
      ∙ spare_marks-front after b b (omega arith)
      ∙ ap₂ spare_marks marks is
      ∙ spares-marked s w.roles rs qs w.table s.bound (omega arith)

  -- the spare list has a place for each
  pub few : length (spare_marks bound_now (length bound_now)) ≤ length spare
  few =
      let l = tab-length s.bound (λ i. bond s.count (relation_at rs i).coefficients (get_or qs i [])) in
      let r : row_of s.count w.roles bs s.bound ≡ length (counted s.count w.roles bs) = row_is s.count w.roles bs s.bound (omega arith) ∙ ap (λ (xs : List Bond). length (counted s.count w.roles xs)) (take_all s.bound bs (omega arith)) in
      let m : length (counted s.count w.roles bs) ≡ length (counted s.count (take s.count roles) bs) = ap (λ (l : List Role). length (counted s.count l bs)) told.roles_are in
      let a = spares-few s.count w.roles bs w.table s.bound in
      let n = ap length numbered in
      omega (arith, n, a, r, m, told.few, told.room)

  -- what was written of them is what the list should hold
  pub told-spares : (k : ℕ) (list : List ℕ) → k ≡ length (spare_marks bound_now (length bound_now)) → list ≡ written k (spare_marks bound_now (length bound_now)) spare → Listed (spare_numbers w s rs qs) k spare list
  told-spares k list many wrote = listed (spare_numbers w s rs qs) spare list k (many ∙ ap length numbered) (omega (arith, many, few)) (wrote ∙ ap (λ (xs : List ℕ). written k xs spare) numbered)
