use Rattle.std.proofs.Common.{◌≡◌, ℕ, ◌+◌, true, false, cond, List, length, set, ℤ, sym, ap, ◌∙◌, arith}
use Rattle.records.specs.declared.relation.Mark.TheVariants.{Idle, Needed, Spare}
use Rattle.records.specs.declared.relation.Relation.{Relation}
use Rattle.whole.specs.Tests.{nonzero}
use Rattle.whole.proofs.Lists.{tab-length}
use Rattle.rules.specs.Sheets.{relation_at}
use Rattle.rules.specs.Gripping.{counts, with_mark, mark_of}
use Rattle.workings.specs.Shown.{shown}
use Rattle.rules.proofs.Bonds.{none}
use Rattle.grips.proofs.Marking.{marks, bs, length_bs, counts-at, marked_more, tally_next, written_next}
use Rattle.grips.proofs.marks.mark_all.Goals as goal
use Rattle.grips.proofs.marks.mark_all.Goals.{then-counts, else-counts}

pub loop-relation-preserved : goal.loop-relation-preserved
loop-relation-preserved c =
    let w = shown c.args.workings.now in
    let rs = c.args.relations.now in
    let i = c.loop-relation.relation-index in
    let l = c.loop-relation-test.true in
    let so = c.loop-relation.invariant.0 in
    let many = tab-length (length (bs w.count w.roles rs)) (λ j. with_mark (relation_at rs j) (mark_of w.count w.roles (bs w.count w.roles rs) w.table j)) in
    let here : relation_at c.loop-relation.relations i ≡ relation_at rs i =
    ap (λ (xs : List Relation). relation_at xs i) so ∙ written_next (marks w.count w.roles (bs w.count w.roles rs) w.table rs) rs i none (omega (arith, many, length_bs w.count w.roles rs)) in
    let counted =
    c.relation_counts-counts.ensures
    ∙ (λ d. counts (c.roles-roles.ensures.long d) (c.roles-roles.ensures.value d) (here d).coefficients) in
    let mark = c.mark_of-relation.ensures ∙ ap (λ (z : ℤ). cond c.relation_counts-counts.result (cond (nonzero z) Needed Spare) Idle) c.diagonal.ensures.value in
    let rows = counts-at w.count w.roles rs i l in (
      ap (λ (r : Relation). set c.loop-relation.relations i (with_mark r c.mark_of-relation.result)) here
          ∙ marked_more w.count w.roles rs w.table i c.loop-relation.row c.loop-relation.relations c.mark_of-relation.result c.relation_counts-counts.result l so c.loop-relation.invariant.1 counted mark,
      elim c.if-counts.branch [
        | then-counts w ↦ w.row-is ∙ ap (λ (k : ℕ). k + 1) c.loop-relation.invariant.1 ∙ sym (tally_next i _ true (rows ∙ sym counted ∙ w.if-counts.true))
        | else-counts w ↦ w.row-is ∙ c.loop-relation.invariant.1 ∙ sym (tally_next i _ false (rows ∙ sym counted ∙ w.if-counts.false))
      ],
      elim c.if-counts.branch [ then-counts w ↦ omega (arith, w.row-is, c.loop-relation.invariant.2) | else-counts w ↦ omega (arith, w.row-is, c.loop-relation.invariant.2) ],
    )
