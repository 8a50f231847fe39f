-- What a grip answers where its lists are long enough and fit.
use Rattle.std.proofs.Common.{◌≡◌, ℕ, ◌≤◌, Bool, false, ◌||◌, ltb, List, length, take, Ok, sym, ap, ◌∙◌}
use Rattle.std.proofs.lemmas.List.{length-take-le}
use Rattle.std.proofs.lemmas.Bool.{le-ltb, ltb-false, or_parts, or_from}
use Rattle.records.specs.declared.refusal.Refusal.TheVariants.{Unfit}
use Rattle.records.specs.declared.relation.Relation.{Relation}
use Rattle.records.specs.declared.role.Role.{Role}
use Rattle.records.specs.Outcomes.{guard}
use Rattle.rules.specs.Values.{Coords}
use Rattle.rules.specs.Sheets.{Sheet, Workings, bonds, unfit_values, unfit_relations, unfit}
use Rattle.rules.specs.Gripping.{counted}
use Rattle.rules.specs.Calls.{grip_on, grip_answer}
use Rattle.law.proofs.Facts.{accepted-grip}
use Rattle.linear.proofs.Outcomes.{passed}
use Rattle.workings.specs.Chosen.{bare, unready, gripped}
use Rattle.workings.proofs.Bonds.{grip_on-bonds, ready_from}

module _ (size : ℕ) (s : Sheet) (vs : List Coords) (rs : List Relation) (qs : List Coords) (roles : List Role) (spare : List ℕ)
    (few : s.count ≤ 48) (h : s.bound ≤ length rs) (long : s.count ≤ length roles) (room : 12 ≤ length spare) (fine : unfit size s vs rs qs ≡ false) where
  many : length (take s.count roles) ≡ s.count
  many = length-take-le s.count roles long

  ready : unready (take s.bound rs) (take s.count roles) ≡ false
  ready = ready_from size s rs qs (take s.count roles) (or_parts (unfit_values size s.count s.d vs) (unfit_relations size s rs qs) fine).1 h many few

  told : grip_on (length (take s.count roles)) (take s.count roles) (bare (length (take s.count roles)) (take s.bound rs)) ≡ grip_on s.count (take s.count roles) (bonds s rs qs)
  told = ap (λ (n : ℕ). grip_on n (take s.count roles) (bare n (take s.bound rs))) many ∙ sym (grip_on-bonds s (take s.count roles) rs qs h)

  none : (ltb (length roles) s.count || ltb (length spare) 12 || unfit size s vs rs qs) ≡ false
  none = or_from (ltb (length roles) s.count || ltb (length spare) 12) _ (or_from (ltb (length roles) s.count) _ (le-ltb _ _ long) (le-ltb _ _ room)) fine

  pub answered : gripped (take s.bound rs) (take s.count roles) ≡ grip_answer size s vs rs qs roles spare
  answered =
      ap (λ (b : Bool). guard b Unfit (grip_on (length (take s.count roles)) (take s.count roles) (bare (length (take s.count roles)) (take s.bound rs)))) ready
      ∙ told ∙ sym (ap (λ (b : Bool). guard b Unfit (grip_on s.count (take s.count roles) (bonds s rs qs))) none)

-- what an accepted grip tells of its workings
pub record Accepted (size : ℕ) (s : Sheet) (vs : List Coords) (rs : List Relation) (qs : List Coords) (roles : List Role) (spare : List ℕ) (w : Workings) : Type 0 where
  pub fine : unfit size s vs rs qs ≡ false
  pub room : 12 ≤ length spare
  pub few : length (counted s.count (take s.count roles) (bonds s rs qs)) ≤ 12
  pub roles_are : w.roles ≡ take s.count roles
  pub count_is : w.count ≡ s.count

pub accepted : (size : ℕ) (s : Sheet) (vs : List Coords) (rs : List Relation) (qs : List Coords) (roles : List Role) (spare : List ℕ) (w : Workings)
    → Ok w ≡ grip_answer size s vs rs qs roles spare → Accepted size s vs rs qs roles spare w
accepted size s vs rs qs roles spare w e =
    let a = passed (ltb (length roles) s.count || ltb (length spare) 12 || unfit size s vs rs qs) Unfit _ w (sym e) in
    let b = or_parts (ltb (length roles) s.count || ltb (length spare) 12) _ a.0 in
    let d = or_parts (ltb (length roles) s.count) _ b.0 in
    let W = accepted-grip size s vs rs qs roles spare w (sym e) in
    record {
      fine = b.1;
      room = ltb-false _ _ d.1;
      few = W.few;
      roles_are = W.roles_are;
      count_is = W.count_is;
    }
