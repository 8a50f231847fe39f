use Rattle.std.proofs.Common.{◌≡◌, ℕ, ◌/◌, ◌<◌, ◌≤◌, List, ℤ, pos, sym, ap, ◌∙◌, subst, arith, w64, to_z}
use Rattle.std.proofs.lemmas.Int.{to_z_pos}
use Rattle.fractions.specs.Steps.{divisor_from, divided, quotients}
use Rattle.fractions.proofs.Quotients.{divided-above}
use Rattle.fractions.proofs.Divisors.{divisor-above, divisor-≤}
use Rattle.residuals.proofs.Lowering.{lower-spare, lower-needed}
use Rattle.residuals.proofs.rows.lower_row.Goals as goal

module _ (p h : ℕ) (us : List ℤ) (e : h ≡ divisor_from p us) (some : 0 < p) (few : p ≤ 2147483647) where
  above-0 : 0 < h
  above-0 = subst (λ (n : ℕ). 0 < n) (sym e) (divisor-above p us some)

  small : h ≤ 2147483647
  small = let a = divisor-≤ p us some in omega (arith, e)

  read : to_z w64 h ≡ pos h
  read = to_z_pos w64 h (omega (arith, small))

pub nonzero_div-result : goal.nonzero_div-result
nonzero_div-result g c = above-0 c.args.p c.divisor_with-h.result (g.K.Kind.coords c.args.g) c.divisor_with-h.ensures (omega (arith, c.if-p-eq0.false)) c.requires

pub overflow_cast-h : goal.overflow_cast-h
overflow_cast-h g c = let a = small c.args.p c.divisor_with-h.result (g.K.Kind.coords c.args.g) c.divisor_with-h.ensures (omega (arith, c.if-p-eq0.false)) c.requires in record { sfits = omega arith }

pub returns-then-p-eq0 : goal.returns-then-p-eq0
returns-then-p-eq0 g c = lower-spare g.K.Kind.size c.args.p (g.K.Kind.coords c.args.g) (g.met.K.Kind.laws.sized c.args.g) c.if-p-eq0.true (sym c.if-value_above.ensures)

pub returns : goal.returns
returns g c =
    let us = g.K.Kind.coords c.args.g in
    let e = c.divisor_with-h.ensures in
    let h : 0 < c.args.p = omega (arith, c.if-p-eq0.false) in
    lower-needed g.K.Kind.size c.args.p us h _ _ (ap (λ (h : ℕ). c.args.p / h) e)
    (c.divided.ensures ∙ ap (divided g.K.Kind.size us) (read c.args.p c.divisor_with-h.result us e h c.requires)
    ∙ divided-above g.K.Kind.size c.divisor_with-h.result us (above-0 c.args.p c.divisor_with-h.result us e h c.requires) ∙ ap (λ (h : ℕ). quotients g.K.Kind.size us (pos h)) e)
