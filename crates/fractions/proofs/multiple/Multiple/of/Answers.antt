use Rattle.std.proofs.Common.{◌≡◌, ℕ, ◌+◌, length, get_or, Err, Result, sym, ap, ◌∙◌, arith, rules}
use Rattle.std.proofs.lemmas.Bool.{ltb-true}
use Rattle.records.specs.Outcomes.{image}
use Rattle.records.specs.declared.refusal.Refusal.{Refusal}
use Rattle.records.specs.declared.refusal.Refusal.TheVariants.{TooFine}
use Rattle.fractions.specs.declared.multiple.Multiple.{Multiple}
use Rattle.fractions.specs.Multiple.{taken_up, multiple}
use Rattle.fractions.proofs.Multiplying.{multiple_up, multiple_more, beyond-multiple}
use Rattle.fractions.proofs.Refusing.{guard_err}
use Rattle.fractions.proofs.multiple.Multiple.of.Goals as goal

pub returns-in_err-all : goal.returns-in_err-all
returns-in_err-all c =
    let ps = c.args.numbers.now in
    let i = c.loop-p.p-index in
    let l = c.loop-p.all.0 in
    let number : Result Multiple Refusal → Result ℕ Refusal = λ r. image (λ m. m.l) r in
    let e : c.from_residual.result ≡ Err c.in_err-all.field-0.0 = search rules in
    let r = guard_err _ TooFine _ c.in_err-all.field-0.0 (sym (ap number c.in_err-all.was) ∙ c.take_up.ensures) in
    let a = ltb-true 2147483647 (taken_up l (get_or ps i 0)) r.1 in
    let b = multiple_more i ps ∙ sym (ap (λ (l : ℕ). taken_up l (get_or ps i 0)) c.loop-p.invariant.0) in
    let d = multiple_up (i + 1) (length ps) ps (omega (arith, c.loop-p-test.true)) in
    ap number (e ∙ ap Err r.0) ∙ beyond-multiple (multiple (length ps) ps) (omega arith)
