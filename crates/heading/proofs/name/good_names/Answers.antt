use Rattle.std.proofs.Common.{◌<◌, length, sym, refl, ◌∙◌, subst, arith}
use Rattle.std.proofs.lemmas.Bool.{false≢true}
use Rattle.heading.specs.Names.{Named, Names, texts}
use Rattle.heading.proofs.Rows.{length-texts, texts-at, has_front, good_more}
use Rattle.heading.proofs.name.good_names.Goals as goal
use Rattle.heading.proofs.name.good_names.Goals.{then-not-is_name-via-then-not-is_name, then-not-is_name-via-else-not-is_name+then-holds}

pub returns-then-not-is_name : goal.returns-then-not-is_name
returns-then-not-is_name c =
    let names = c.args.names.now in
    let i = c.loop-i.i in
    let size = length-texts names in
    let here = texts-at names i _ c.loop-i-test.true in
    let bad : Names (texts names) → ⊥ = elim c.then-not-is_name.branch [
      | then-not-is_name-via-then-not-is_name w ↦ λ ns. false≢true (w.if-not-is_name.ensures.1 (subst Named here (ns.named i (omega arith))))
      | then-not-is_name-via-else-not-is_name+then-holds w ↦ λ ns.
          let h = (has_front names i _ _ (omega arith) w.if-holds.ensures).0 refl in
          ns.distinct h.0 i h.1 (omega arith) (h.3 ∙ sym here)
    ] in
    (λ e. absurd (false≢true e), λ ns. absurd (bad ns))

pub loop-i-preserved : goal.loop-i-preserved
loop-i-preserved c =
    let names = c.args.names.now in
    let i = c.loop-i.i in
    let size = length-texts names in
    let inside : i < length (texts names) = omega arith in
    let fresh = has_front names i _ _ (omega arith) c.if-holds.ensures in
    let here = texts-at names i _ c.loop-i-test.true in
    good_more (texts names) i inside c.loop-i.invariant (subst Named (sym here) (c.if-not-is_name.ensures.0 refl)) (λ h. false≢true (fresh.1 (h.0, h.1, h.2, h.3 ∙ here)))
