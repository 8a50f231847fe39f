-- A pull with the workings of a grip on the sheet, by what stands where its lists fit.
use Rattle.std.proofs.Common.{◌≡◌, ℕ, ◌<◌, ◌≤◌, false, List, [], length, get_or, Ok, refl, ap, ◌∙◌, subst, arith}
use borrow.Author.Differences.{ints}
use Rattle.std.proofs.lemmas.List.{length-take-le, get_or-take}
use Rattle.std.proofs.lemmas.Bool.{cond_both, cond-false, or_parts}
use Rattle.linear.proofs.Outcomes.{not_accepted}
use Rattle.records.specs.declared.refusal.Refusal.TheVariants.{Unfit}
use Rattle.records.specs.declared.relation.Relation.{Relation}
use Rattle.records.specs.declared.role.Role.{Role}
use Rattle.rules.specs.Limits.{most_relations}
use Rattle.rules.specs.Values.{Coords}
use Rattle.rules.specs.Sheets.{Sheet, bonds, Workings, unfit_values, unfit}
use Rattle.rules.specs.Calls as Calls
use Rattle.rules.specs.Calls.{grip_on, unfit_pull, pulling}
use Rattle.rules.specs.Runs.{Use, gripped, told}
use Rattle.rules.proofs.Accepted.{pullable}
use Rattle.rules.proofs.Fit.{fit_values}
use Rattle.law.specs.Placings.{Shaped, AllHold}
use Rattle.law.specs.Facts.{values_of, told_by, PulledRightly, PullsRightly}
use Rattle.law.specs.Standing.{GrippedWell, Standing}
use Rattle.law.proofs.Facts.{gripped_on, gripped-well}
use Rattle.law.proofs.Pulls.{pull_lawful}

module _ (size : ℕ) (s : Sheet) (vs : List Coords) (rs : List Relation) (qs : List Coords) (w : Workings) (wishes proposal working : List Coords)
    (few : s.bound ≤ most_relations) (sized : (i : ℕ) → i < length vs → length (get_or vs i []) ≡ size) where
  abbrev n : ℕ
  n = s.count

  abbrev u : Use
  u = record { sheet = s; values = vs; relations = rs; constants = qs; proposal = proposal; working = working; places = 0; phase = gripped w }

  -- a sheet whose lists fit has a value for each parameter, over a denominator above 0
  shaped : unfit size s vs rs qs ≡ false → Shaped size n (values_of s vs)
  shaped e =
      let F = fit_values size n s.d vs (or_parts (unfit_values size n s.d vs) _ e).0 in
      let long = F.long in
      let low = F.low in
      record {
        above = omega (arith, ints);
        values = length-take-le n vs long;
        coordinates = λ i l. ap (λ (x : Coords). length x) (get_or-take n vs i [] l) ∙ sized i (omega arith);
      }

  module _ (roles : List Role) (g : grip_on n roles (bonds s rs qs) ≡ Ok w) (holds : AllHold size n (bonds s rs qs) (values_of s vs)) where
    well : GrippedWell n (bonds s rs qs) roles w
    well = gripped-well n roles (bonds s rs qs) w (gripped_on n roles (bonds s rs qs) w g)

    stands : unfit size s vs rs qs ≡ false → Standing size n (told_by s vs rs qs roles) u
    stands e = record { count_is = refl; few = few; bound_is = refl; over_is = refl; values_are = refl; shaped = shaped e; holds = holds; stage_is = refl; phase_is = well }

  by_fit : let P = pulling size s vs rs qs w wishes proposal working in PulledRightly size s vs rs qs w wishes (told n P.1 P.0)
  by_fit = cond_both (unfit_pull size s vs rs qs w wishes proposal working) _ _ (λ (P : Calls.Pulled). PulledRightly size s vs rs qs w wishes (told n P.1 P.0))
      (λ e roles g holds. ((λ is_open d1 d11 d12. absurd (d1 refl)), λ x h. absurd (not_accepted Unfit x h)))
      (λ e roles g holds. subst (λ (P : Calls.Pulled). Rattle.law.specs.Law.LawfulReply size n (told_by s vs rs qs roles) (Rattle.rules.specs.Runs.pull wishes) (told n P.1 P.0)) (cond-false (unfit_pull size s vs rs qs w wishes proposal working) _ _ e)
      (pull_lawful size n (told_by s vs rs qs roles) u (stands roles g holds (pullable size s vs rs qs w wishes proposal working e).1) w (well roles g holds) wishes))

pub pulls_rightly : PullsRightly
pulls_rightly = by_fit
