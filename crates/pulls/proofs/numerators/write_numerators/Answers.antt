use Rattle.std.proofs.Common.{◌≡◌, ℕ, ◌<◌, ◌≤◌, List, [], map, length, get_or, ℤ, pos, ◌*ℤ◌, nat_abs, sym, ap, ◌∙◌, subst, ap₂, arith, w64, SFits, to_z, of_z, rules}
use Rattle.std.proofs.lemmas.List.{length-map, get_or-map}
use Rattle.std.proofs.lemmas.Int.{to_z-of_z, to_z_pos}
use Rattle.whole.specs.Lists.{at}
use Rattle.whole.proofs.Lists.{tab-length, get_or-tab}
use Rattle.whole.proofs.Sizes.{fits}
use Rattle.whole.proofs.Tests.{any_false, above_false}
use Rattle.rules.specs.Sheets.{relation_at}
use Rattle.records.specs.declared.role.Role.{Role}
use Rattle.rules.specs.Gripping.{role}
use Rattle.rules.proofs.Bounds.{denominator_within}
use Rattle.rules.proofs.Fit.{fit_values}
use Rattle.sheets.proofs.Writing.{written_more}
use Rattle.workings.specs.Shown.{shown}
use Rattle.pulls.specs.Finish.{numerators_by}
use Rattle.sheets.proofs.Writing.{written_all}
use Rattle.pulls.proofs.Numbers.{number_is, numbers-within}
use Rattle.pulls.proofs.numerators.write_numerators.Goals as goal

-- ℓ × d, as code has it
module _ (l : ℕ) (d : ℤ) (few : l ≤ 2147483647) (f : SFits w64 d) (h : nat_abs d ≤ 45000) where
  first : to_z w64 l ≡ pos l
  first = to_z_pos w64 l (omega arith)

  second : to_z w64 (of_z w64 d) ≡ d
  second = to_z-of_z w64 d f

  fitting : SFits w64 (to_z w64 l *ℤ to_z w64 (of_z w64 d))
  fitting = let a = denominator_within l d few h in subst (λ (z : ℤ). SFits w64 z) (sym (ap₂ ◌*ℤ◌ first second)) (fits (pos l *ℤ d) (omega arith))

  product : to_z w64 (of_z w64 (to_z w64 l *ℤ to_z w64 (of_z w64 d))) ≡ pos l *ℤ d
  product = to_z-of_z w64 (to_z w64 l *ℤ to_z w64 (of_z w64 d)) fitting ∙ ap₂ ◌*ℤ◌ first second

pub numerator-requires : goal.numerator-requires
numerator-requires g c =
    let f = g.K.Kind.coords in
    let size = g.K.Kind.size in
    let s = c.loop-s.s in
    let t = c.args.task.now in
    let w = shown t.workings.now in
    let vs = map f t.values.now in
    let rs = t.relations.now in
    let rows = t.rows.now in
    let below : s < w.count = omega (arith, c.loop-s-test.true, c.requires.proposed) in
    let fit = fit_values size w.count t.d vs t.fit in
    let fd : SFits w64 t.d = search rules in
    let read : SFits w64 (get_or c.shares-shares.result.now s (pos 0)) = search rules in
    let share = subst (λ (x : List ℤ). nat_abs (at x s) ≤ 12) c.shares-shares.ensures.value (c.shares-shares.ensures.most s) in
    let small : (i : ℕ) → i < length rows → nat_abs (at (relation_at rs (get_or rows i 0)).coefficients s) ≤ 1000 = λ i h. above_false 1000 (at (relation_at rs (get_or rows i 0)).coefficients s) (any_false w.count _ (t.fine.small i h) s below) in
    let within = numbers-within size w.count w.roles c.args.multiple.l t.d vs (map f t.wishes.now) (at w.shares s) rs rows (map f c.args.multipliers.now) s _ _ _ _ _ _ (f c.shift-moved.result)
    (ap (λ (x : List Role). role x s) c.roles-roles.ensures.value) (first c.args.multiple.l t.d c.args.multiple.within fd fit.high) (product c.args.multiple.l t.d c.args.multiple.within fd fit.high)
    (to_z-of_z w64 (get_or c.shares-shares.result.now s (pos 0)) read ∙ ap (λ (x : List ℤ). at x s) c.shares-shares.ensures.value)
    (sym (get_or-map f t.values.now s c.index-task-s.result [] (omega (arith, length-map t.values.now f, fit.long)))) (sym (get_or-map f t.wishes.now s c.index-task-s-in-loop-s.result [] (omega (arith, t.wished)))) c.shift-moved.ensures
    c.args.multiple.within t.fit t.near share (omega (arith, t.many, t.workings.now.few)) small c.requires.limited below in
    record { wished = within.0; shifted = within.1; whole = within.2 }

pub loop-s-preserved : goal.loop-s-preserved
loop-s-preserved g c =
    let f = g.K.Kind.coords in
    let size = g.K.Kind.size in
    let s = c.loop-s.s in
    let t = c.args.task.now in
    let w = shown t.workings.now in
    let vs = map f t.values.now in
    let ws = map f t.wishes.now in
    let xs = map f c.args.multipliers.now in
    let below : s < w.count = omega (arith, c.loop-s-test.true, c.requires.proposed) in
    let fit = fit_values size w.count t.d vs t.fit in
    let fd : SFits w64 t.d = search rules in
    let read : SFits w64 (get_or c.shares-shares.result.now s (pos 0)) = search rules in
    let all = numerators_by size w.count w.roles w.shares c.args.multiple.l t.d vs ws t.relations.now t.rows.now xs in
    let long : length all ≡ w.count = tab-length w.count _ in
    written_more f c.args.proposal.now c.loop-s.proposal all s c.numerator.result (omega (arith, long, below)) c.loop-s-test.true
    (c.numerator.ensures
    ∙ number_is size w.count w.roles c.args.multiple.l t.d vs ws (at w.shares s) t.relations.now t.rows.now xs s _ _ _ _ _ _ (f c.shift-moved.result)
    (ap (λ (x : List Role). role x s) c.roles-roles.ensures.value) (first c.args.multiple.l t.d c.args.multiple.within fd fit.high) (product c.args.multiple.l t.d c.args.multiple.within fd fit.high)
    (to_z-of_z w64 (get_or c.shares-shares.result.now s (pos 0)) read ∙ ap (λ (x : List ℤ). at x s) c.shares-shares.ensures.value)
    (sym (get_or-map f t.values.now s c.index-task-s.result [] (omega (arith, length-map t.values.now f, fit.long)))) (sym (get_or-map f t.wishes.now s c.index-task-s-in-loop-s.result [] (omega (arith, t.wished)))) c.shift-moved.ensures
    ∙ sym (get_or-tab w.count _ [] s below)) c.loop-s.invariant

pub returns : goal.returns
returns g c =
    let f = g.K.Kind.coords in
    let t = c.args.task.now in
    let w = shown t.workings.now in
    let all = numerators_by g.K.Kind.size w.count w.roles w.shares c.args.multiple.l t.d (map f t.values.now) (map f t.wishes.now) t.relations.now t.rows.now (map f c.args.multipliers.now) in
    let n : length all ≡ w.count = tab-length w.count _ in
    let long = length-map c.args.proposal.now f in
    let end = c.loop-s-test.false in
    c.loop-s.invariant ∙ written_all c.loop-s.s all (map f c.args.proposal.now) (omega (arith, c.requires.proposed)) (omega arith)
