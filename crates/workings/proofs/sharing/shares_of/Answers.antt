use Rattle.std.proofs.Common.{ℕ, ◌+◌, ◌<◌, [], ◌∷◌, ◌++◌, length, take, set, ℤ, sym, ap, ◌∙◌, arith, length-set, w64, SFits, rules}
use Rattle.std.proofs.lemmas.List.{take_more_set}
use Rattle.std.proofs.lemmas.Int.{to_z-of_z}
use Rattle.rules.specs.Gripping.{role, share}
use Rattle.table.proofs.Places.{tab_more}
use Rattle.workings.proofs.sharing.shares_of.Goals as goal

pub loop-s-preserved : goal.loop-s-preserved
loop-s-preserved c =
    let room : c.loop-s.s < length c.loop-s.all = omega (arith, c.loop-s.invariant.1) in
    let f : SFits w64 c.share_of.result = search rules in
    let back = to_z-of_z w64 c.share_of.result f in (
      ap (λ (x : ℤ). take (c.loop-s.s + 1) (set c.loop-s.all c.loop-s.s x)) back
          ∙ take_more_set c.loop-s.all c.loop-s.s c.share_of.result room
          ∙ (λ i. c.loop-s.invariant.0 i ++ c.share_of.ensures i ∷ [])
          ∙ sym (tab_more c.loop-s.s (λ (s : ℕ). share (role c.args.roles.now s))),
      length-set c.loop-s.all c.loop-s.s _ ∙ c.loop-s.invariant.1,
    )
