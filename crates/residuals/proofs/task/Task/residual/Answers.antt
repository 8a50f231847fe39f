use Rattle.std.proofs.Common.{◌≡◌, ℕ, ◌<◌, ◌≤◌, [], map, length, get_or, ℤ, pos, nat_abs, sym, ap, ◌∙◌, subst, arith, w64, SFits, rules}
use Rattle.std.proofs.lemmas.List.{length-map, get_or-map}
use Rattle.std.proofs.lemmas.Int.{to_z-of_z}
use Rattle.whole.specs.Lists.{at}
use Rattle.whole.proofs.Tests.{any_false, above_false}
use Rattle.rules.specs.Sheets.{relation_at}
use Rattle.rules.specs.Gripping.{role}
use Rattle.rules.proofs.Fit.{fit_values}
use Rattle.workings.specs.Shown.{shown}
use Rattle.fractions.specs.Steps.{plus}
use Rattle.residuals.specs.Steps.{factor, taken, residual_at}
use Rattle.fractions.proofs.Placed.{tabbed}
use Rattle.residuals.proofs.Terms.{begun, less_one}
use Rattle.residuals.proofs.task.Task.residual.Goals as goal

pub loop-s-init : goal.loop-s-init
loop-s-init g c =
    let f = g.K.Kind.coords in
    let t = c.args.self.now in
    let w = shown t.workings.now in
    let row = get_or t.rows.now c.args.i 0 in
    let cs = (relation_at t.relations.now row).coefficients in
    let vs = map f t.values.now in
    let ws = map f t.wishes.now in
    let fd : SFits w64 t.d = search rules in
    let known : row < length t.constants.now = omega (arith, length-map t.constants.now f, t.fine.known c.args.i c.requires) in
    let q = sym (get_or-map f t.constants.now row c.index-self-self.result [] known) in
    λ k l. begun g.K.Kind.size w.count w.roles t.d vs ws cs (get_or (map f t.constants.now) row []) t.workings.now.parameters t.fit t.near (t.fine.small c.args.i c.requires) (t.fine.constant c.args.i c.requires)
    (f c.zero.result) (f c.add-sum.result) c.zero.ensures (c.add-sum.ensures ∙ (λ i. plus (f c.zero.result) (to_z-of_z w64 t.d fd i) (q i))) k l

pub less_term-sum-requires : goal.less_term-sum-requires
less_term-sum-requires g c =
    let f = g.K.Kind.coords in
    let s = c.loop-s.s in
    let t = c.args.self.now in
    let w = shown t.workings.now in
    let cs = (relation_at t.relations.now (get_or t.rows.now c.args.i 0)).coefficients in
    let below : s < w.count = omega (arith, c.loop-s-test.true, c.roles-role-items.ensures.long) in
    let d : SFits w64 t.d = search rules in
    let read : SFits w64 (get_or cs s (pos 0)) = search rules in
    record {
      over = subst (λ (z : ℤ). nat_abs z ≤ 45000) (sym (to_z-of_z w64 t.d d)) (fit_values g.K.Kind.size w.count t.d (map f t.values.now) t.fit).high;
      small = subst (λ (z : ℤ). nat_abs z ≤ 1000) (sym (to_z-of_z w64 (get_or cs s (pos 0)) read)) (above_false 1000 (at cs s) (any_false w.count _ (t.fine.small c.args.i c.requires) s below));
    }

pub loop-s-preserved : goal.loop-s-preserved
loop-s-preserved g c =
    let f = g.K.Kind.coords in
    let s = c.loop-s.s in
    let t = c.args.self.now in
    let w = shown t.workings.now in
    let row = get_or t.rows.now c.args.i 0 in
    let cs = (relation_at t.relations.now row).coefficients in
    let vs = map f t.values.now in
    let ws = map f t.wishes.now in
    let below : s < w.count = omega (arith, c.loop-s-test.true, c.roles-role-items.ensures.long) in
    let fit = fit_values g.K.Kind.size w.count t.d vs t.fit in
    let fd : SFits w64 t.d = search rules in
    let read : SFits w64 (get_or cs s (pos 0)) = search rules in
    let wish = sym (get_or-map f t.wishes.now s c.index-self-s.result [] (omega (arith, t.wished))) in
    let value = sym (get_or-map f t.values.now s c.index-self-s-in-loop-s.result [] (omega (arith, length-map t.values.now f, fit.long))) in
    let is = c.less_term-sum.ensures ∙ (λ i. plus (f c.loop-s.sum) (factor (role (c.roles-role-items.ensures.value i) s) (to_z-of_z w64 t.d fd i) (to_z-of_z w64 (get_or cs s (pos 0)) read i)) (taken (role (c.roles-role-items.ensures.value i) s) (wish i) (value i))) in
    less_one g.K.Kind.size w.count w.roles t.d vs ws cs (get_or (map f t.constants.now) row []) t.workings.now.parameters t.fit t.near (t.fine.small c.args.i c.requires) (t.fine.constant c.args.i c.requires)
    s below (f c.loop-s.sum) (f c.less_term-sum.result) (g.met.K.Kind.laws.sized c.loop-s.sum) is c.loop-s.invariant

pub returns : goal.returns
returns g c =
    let f = g.K.Kind.coords in
    let t = c.args.self.now in
    let w = shown t.workings.now in
    let row = get_or t.rows.now c.args.i 0 in
    let end : c.loop-s.s ≡ w.count = omega (arith, c.loop-s-test.false, c.loop-s.auto.s-end, c.roles-role-items.ensures.long) in
    tabbed g.K.Kind.size (f c.loop-s.sum) _ (g.met.K.Kind.laws.sized c.loop-s.sum)
    (λ k l. c.loop-s.invariant k l ∙ ap (λ (n : ℕ). residual_at n w.roles t.d (map f t.values.now) (map f t.wishes.now) (relation_at t.relations.now row).coefficients (get_or (map f t.constants.now) row []) k) end)
