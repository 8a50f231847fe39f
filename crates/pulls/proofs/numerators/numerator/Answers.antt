use Rattle.std.proofs.Common.{ℕ, ◌≤◌, ℤ, nat_abs, sym, ap, ◌∙◌, subst, w64}
use Rattle.std.proofs.lemmas.Int.{to_z-of_z}
use Rattle.records.specs.declared.role.Role.{Role}
use Rattle.whole.specs.Lists.{tab, at}
use Rattle.rules.specs.Gripping.{is_held}
use Rattle.fractions.specs.Steps.{plus}
use Rattle.pulls.specs.Steps.{numerator_over}
use Rattle.pulls.proofs.Numbers.{single, double}
use Rattle.pulls.proofs.numerators.numerator.Goals as goal

pub returns-in-Held : goal.returns-in-Held
returns-in-Held g c =
    let f = g.K.Kind.coords in
    let size = g.K.Kind.size in
    let is = c.in-Held.is in
    let all : Role → ℕ → ℤ = λ r k. numerator_over r c.args.l c.args.e (at (f c.args.value) k) (at (f c.args.wish) k) c.args.share (at (f c.args.moved) k) in
    single size (f c.zero.result) c.args.l (f c.args.value) (f c.add.result) c.zero.ensures
    (c.add.ensures ∙ ap (λ (z : ℤ). plus (f c.zero.result) z (f c.args.value)) (to_z-of_z w64 c.args.l c.ranges.l))
    (λ k b. subst (λ (r : Role). nat_abs (all r k) ≤ 5000000000000000000) is (c.requires.whole k b)) (g.met.K.Kind.laws.sized c.add.result) ∙ ap (λ (r : Role). tab size (all r)) (sym is)

pub returns-in-Pulled : goal.returns-in-Pulled
returns-in-Pulled g c =
    let f = g.K.Kind.coords in
    let size = g.K.Kind.size in
    let is = c.in-Pulled.is in
    let all : Role → ℕ → ℤ = λ r k. numerator_over r c.args.l c.args.e (at (f c.args.value) k) (at (f c.args.wish) k) c.args.share (at (f c.args.moved) k) in
    single size (f c.zero-in-Pulled.result) c.args.e (f c.args.wish) (f c.add-in-Pulled.result) c.zero-in-Pulled.ensures
    (c.add-in-Pulled.ensures ∙ ap (λ (z : ℤ). plus (f c.zero-in-Pulled.result) z (f c.args.wish)) (to_z-of_z w64 c.args.e c.ranges.e))
    (λ k b. subst (λ (r : Role). nat_abs (all r k) ≤ 5000000000000000000) is (c.requires.whole k b)) (g.met.K.Kind.laws.sized c.add-in-Pulled.result) ∙ ap (λ (r : Role). tab size (all r)) (sym is)

pub returns-in-Loose : goal.returns-in-Loose
returns-in-Loose g c =
    let f = g.K.Kind.coords in
    let size = g.K.Kind.size in
    let is = c.in-Loose.is in
    let all : Role → ℕ → ℤ = λ r k. numerator_over r c.args.l c.args.e (at (f c.args.value) k) (at (f c.args.wish) k) c.args.share (at (f c.args.moved) k) in
    double size (f c.zero-in-Loose.result) c.args.e (f c.args.wish) (f c.add-in-Loose.result) c.zero-in-Loose.ensures
    (c.add-in-Loose.ensures ∙ ap (λ (z : ℤ). plus (f c.zero-in-Loose.result) z (f c.args.wish)) (to_z-of_z w64 c.args.e c.ranges.e))
    (c.requires.wished (ap is_held is)) c.args.share (f c.args.moved) (f c.add-in-Loose-2.result) (g.met.K.Kind.laws.sized c.add-in-Loose.result) (g.met.K.Kind.laws.sized c.add-in-Loose-2.result)
    (c.add-in-Loose-2.ensures ∙ ap (λ (z : ℤ). plus (f c.add-in-Loose.result) z (f c.args.moved)) (to_z-of_z w64 c.args.share c.ranges.share))
    c.requires.shifted (λ k b. subst (λ (r : Role). nat_abs (all r k) ≤ 5000000000000000000) is (c.requires.whole k b)) ∙ ap (λ (r : Role). tab size (all r)) (sym is)
