use Rattle.std.proofs.Common.{◌≡◌, ◌==◌, ℕ, false, ◌≤◌, ◌+◌, List, ℤ, map, length, take, ap, ◌∙◌, arith}
use Rattle.std.proofs.lemmas.Bool.Decides.{nat_tests}
use Rattle.arrayvec.specs.ArrayVec.{ArrayVec, array_vec_len}
use Rattle.workings.proofs.Counting.{chosen-left, chosen_more, crowded, first_twelve}
use Rattle.workings.proofs.choosing.choose.Goals as goal
use Rattle.workings.proofs.choosing.choose.Goals.{then-relation_counts+else-is_full, else-relation_counts}

pub returns-then-is_full : goal.returns-then-is_full
returns-then-is_full c =
    let twelve : length c.loop-relation.chosen.items ≡ 12 = grind (arith, nat_tests, c.if-is_full.ensures.value) in
    record {
      rows = crowded (length c.args.roles.now) c.args.roles.now c.args.relations.now c.loop-relation.relation-index c.loop-relation-test.true c.loop-relation.chosen.items c.loop-relation.invariant.0 c.if-relation_counts.ensures twelve;
      many = tt;
      full = first_twelve (length c.args.roles.now) c.args.roles.now c.args.relations.now c.loop-relation.relation-index c.loop-relation.chosen.items c.loop-relation.invariant.0 twelve;
    }

-- a list that is not full has room for one more
room : (n : ℕ) → n ≤ 12 → false ≡ (n == 12) → n + 1 ≤ 12
room n h e = grind (arith, nat_tests)

pub loop-relation-preserved : goal.loop-relation-preserved
loop-relation-preserved c =
    let n = length c.args.roles.now in
    elim c.if-relation_counts.branch [
      | then-relation_counts+else-is_full w ↦ (
        ap (λ (v : ArrayVec (List ℤ)). map (take n) v.items) w.chosen-is ∙ ap (map (take n)) w.push.ensures.items
            ∙ chosen_more n c.args.roles.now c.args.relations.now c.loop-relation.relation-index c.loop-relation-test.true c.loop-relation.chosen.items c.loop-relation.invariant.0 w.if-relation_counts.ensures,
        (let e = ap array_vec_len w.chosen-is in let b = room (array_vec_len c.loop-relation.chosen) c.loop-relation.invariant.1 w.if-is_full.ensures.value in omega (arith, w.push.ensures.len)),
      )
      | else-relation_counts w ↦ (
        ap (λ (v : ArrayVec (List ℤ)). map (take n) v.items) w.chosen-is
            ∙ chosen-left n c.args.roles.now c.args.relations.now c.loop-relation.relation-index c.loop-relation-test.true c.loop-relation.chosen.items c.loop-relation.invariant.0 w.if-relation_counts.ensures,
        (let e = ap array_vec_len w.chosen-is in omega arith),
      )
    ]
