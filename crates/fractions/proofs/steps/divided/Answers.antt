use Rattle.std.proofs.Common.{◌≡◌, ℕ, Bool, cond, ◌<◌, ℤ, pos, ◌≤ℤ◌, sym, ap, ◌∙◌, subst, arith, w64, SFits, to_z, of_z, rules}
use borrow.Author.Differences.{ints}
use lib.Signed.{quot_z, lt_z}
use Rattle.std.proofs.lemmas.Int.{to_z-of_z}
use Rattle.whole.specs.Lists.{at}
use Rattle.whole.proofs.Lists.{tab-length, at-tab}
use Rattle.fractions.specs.Steps.{quotients}
use Rattle.fractions.proofs.Quotients.{quotient_fits}
use Rattle.sheets.proofs.Writing.{written_all}
use Rattle.fractions.proofs.Placed.{written_set}
use Rattle.fractions.proofs.steps.divided.Goals as goal

pub returns-then-g-lt1 : goal.returns-then-g-lt1
returns-then-g-lt1 g c =
    let us = g.K.Kind.coords c.args.v in
    let y = to_z-of_z w64 c.args.g c.ranges.g in
    ap (λ (b : Bool). cond b us (quotients g.K.Kind.size us c.args.g)) (sym (sym (ap (λ (z : ℤ). lt_z z (pos 1)) y) ∙ c.if-g-lt1.true))

pub loop-k-preserved : goal.loop-k-preserved
loop-k-preserved g c =
    let f = g.K.Kind.coords in
    let us = f c.args.v in
    let size = g.K.Kind.size in
    let k = c.loop-k.k in
    let z = g.met.K.Kind.laws.sized c.args.v in
    let G = to_z w64 (of_z w64 c.args.g) in
    let F : ℕ → ℤ = λ j. quot_z (at us j) G in
    let l = tab-length size F in
    let h : k < size = omega arith in
    let fx : SFits w64 c.read.result = search rules in
    let x = to_z-of_z w64 c.read.result fx in
    let y = to_z-of_z w64 c.args.g c.ranges.g in
    let whole : to_z w64 (of_z w64 (quot_z (to_z w64 (of_z w64 c.read.result)) G)) ≡ quot_z (to_z w64 (of_z w64 c.read.result)) G =
    to_z-of_z w64 _ (quotient_fits (to_z w64 (of_z w64 c.read.result)) G (subst (λ (v : ℤ). pos 1 ≤ℤ v) (sym y) (omega (arith, ints, c.if-g-lt1.false))) (subst (λ (v : ℤ). SFits w64 v) (sym x) fx)) in
    c.write-quotient.ensures
    ∙ written_set (quotients size us G) us (f c.loop-k.quotient) k _ (pos 0) (omega arith) (omega arith)
    (whole ∙ ap (λ (z : ℤ). quot_z z G) (x ∙ c.read.ensures) ∙ sym (at-tab size F k h)) c.loop-k.invariant

pub returns : goal.returns
returns g c =
    let f = g.K.Kind.coords in
    let us = f c.args.v in
    let size = g.K.Kind.size in
    let z = g.met.K.Kind.laws.sized c.args.v in
    let G = to_z w64 (of_z w64 c.args.g) in
    let l = tab-length size (λ j. quot_z (at us j) G) in
    let y = to_z-of_z w64 c.args.g c.ranges.g in
    c.loop-k.invariant ∙ written_all c.loop-k.k (quotients size us G) us (omega arith) (omega arith) ∙ ap (quotients size us) y
    ∙ ap (λ (b : Bool). cond b us (quotients size us c.args.g)) (sym (sym (ap (λ (z : ℤ). lt_z z (pos 1)) y) ∙ c.if-g-lt1.false))
