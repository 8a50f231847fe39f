use Rattle.std.proofs.Common.{ℕ, List, [], map, length, get_or, ℤ, sym, ap, ◌∙◌, arith, w64, to_z, of_z}
use Rattle.std.proofs.lemmas.List.{length-map, get_or-map}
use Rattle.std.proofs.lemmas.Int.{to_z-of_z}
use Rattle.whole.proofs.Lists.{tab-length, get_or-tab}
use Rattle.sheets.proofs.Writing.{written_more, written_all}
use Rattle.fractions.specs.Steps.{divided}
use Rattle.fractions.specs.Settling.{all_divided}
use Rattle.fractions.proofs.Placed.{written_past}
use Rattle.fractions.proofs.settling.divide_all.Goals as goal

pub loop-v-preserved : goal.loop-v-preserved
loop-v-preserved g c =
    let f = g.K.Kind.coords in
    let size = g.K.Kind.size in
    let s = c.loop-v.v-index in
    let xs = c.args.proposal.now in
    let us = map f xs in
    let G = to_z w64 (of_z w64 c.args.g) in
    let F : ℕ → List ℤ = λ s. divided size (get_or us s []) G in
    let many = length-map xs f in
    let n = tab-length (length us) F in
    let now = sym (get_or-map f c.loop-v.proposal s c.v-item.result [] (omega (arith, c.loop-v-test.true, c.loop-v.auto.proposal)))
    ∙ ap (λ (x : List (List ℤ)). get_or x s []) c.loop-v.invariant ∙ written_past s (all_divided size us G) us [] s (omega (arith, c.loop-v-test.true)) (omega arith) in
    written_more f xs c.loop-v.proposal (all_divided size us G) s c.divided.result (omega (arith, c.loop-v-test.true)) c.loop-v-test.true
    (c.divided.ensures ∙ ap (λ (u : List ℤ). divided size u G) now ∙ sym (get_or-tab (length us) F [] s (omega (arith, c.loop-v-test.true)))) c.loop-v.invariant

pub returns : goal.returns
returns g c =
    let f = g.K.Kind.coords in
    let size = g.K.Kind.size in
    let xs = c.args.proposal.now in
    let us = map f xs in
    let G = to_z w64 (of_z w64 c.args.g) in
    let n = tab-length (length us) (λ s. divided size (get_or us s []) G) in
    let many = length-map xs f in
    let end = c.loop-v-test.false in
    c.loop-v.invariant ∙ written_all c.loop-v.v-index (all_divided size us G) us (omega arith) (omega arith) ∙ ap (all_divided size us) (to_z-of_z w64 c.args.g c.ranges.g)
