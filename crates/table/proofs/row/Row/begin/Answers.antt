use Rattle.std.proofs.Common.{ℕ, ◌+◌, ◌++◌, length, drop, set, replicate, ℤ, pos, sym, ap, ◌∙◌, arith, w64, SFits, rules}
use Rattle.std.proofs.lemmas.Int.{to_z-of_z}
use Rattle.whole.specs.Lists.{tab, at, coord}
use Rattle.whole.proofs.Lists.{tab-length}
use Rattle.linear.specs.Gram.{gram}
use Rattle.table.proofs.Inside.{Inside, inside}
use Rattle.table.proofs.Places.{put_more, tab_more}
use Rattle.table.proofs.row.Row.begin.Goals as goal
use Rattle.table.proofs.row.Row.begin.Goals.{Start}

within : (c : Start) → Inside (length c.args.shares.now) (length c.args.rows.now) c.args.shares.now c.args.rows.now
within c = inside _ _ c.args.shares.now c.args.rows.now c.requires.limits

pub weighted_sum-requires : goal.weighted_sum-requires
weighted_sum-requires c =
    let i = within (goal.at.weighted_sum-requires c).Start in
    record { few = i.parameters; shares = i.shares; rows = (i.rows c.args.i c.requires.row, i.rows c.loop-j.j c.loop-j-test.true) }

pub loop-j-preserved : goal.loop-j-preserved
loop-j-preserved c =
    let f : ℕ → ℤ = gram (length c.args.shares.now) (at c.args.shares.now) (coord c.args.rows.now) c.args.i in
    let few = (within (goal.at.loop-j-preserved c).Start).relations in
    let fr : SFits w64 c.weighted_sum.result = search rules in
    let back = to_z-of_z w64 c.weighted_sum.result fr ∙ c.weighted_sum.ensures in
    ap (λ (x : ℤ). set c.loop-j.self.cells c.loop-j.j x) back
    ∙ put_more (tab c.loop-j.j f) (replicate 24 (pos 0)) c.loop-j.self.cells c.loop-j.j c.loop-j.invariant (tab-length c.loop-j.j f) (omega arith) (pos 0) (f c.loop-j.j)
    ∙ ap (λ l. l ++ drop (c.loop-j.j + 1) (replicate 24 (pos 0))) (sym (tab_more c.loop-j.j f))
