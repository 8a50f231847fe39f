use Rattle.std.proofs.Common.{rules, ℕ, take, ap, ◌∙◌, pos, arith}
use Rattle.std.proofs.lemmas.Bool.{le-ltb}
use Rattle.std.proofs.lemmas.Iterator.Search.{any_from_yields_List}
use Rattle.std.proofs.lemmas.Iterator.{YieldsList-from_slice}
use Rattle.std.proofs.lemmas.List.{take_min}
use Rattle.std.specs.List.{list_any}
use Rattle.whole.specs.Tests.{above}
use Rattle.whole.proofs.Chains.{any_take}
use Rattle.whole.proofs.bounds.some_above.Goals as goal

pub returns : goal.returns
returns c =
    let front = ap (λ (n : ℕ). take n c.args.xs.now) c.min-known.ensures ∙ take_min c.args.n c.args.xs.now in
    any_from_yields_List (above c.args.most) _ _ _ c.any.ensures.ran (YieldsList-from_slice (take c.min-known.result c.args.xs.now) cc) (λ x b q k. search rules)
    ∙ ap (list_any (above c.args.most)) front
    ∙ any_take (above c.args.most) (pos 0) c.args.n c.args.xs.now (le-ltb c.args.most 0 (omega arith))
