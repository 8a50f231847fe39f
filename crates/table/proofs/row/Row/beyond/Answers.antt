use Rattle.std.proofs.Common.{rules, take, ◌∙◌, pos, arith}
use Rattle.std.proofs.lemmas.Bool.{le-ltb}
use Rattle.std.proofs.lemmas.Iterator.Search.{any_from_yields_List}
use Rattle.std.proofs.lemmas.Iterator.{YieldsList-from_slice}
use Rattle.whole.specs.Tests.{above}
use Rattle.whole.proofs.Chains.{any_take}
use Rattle.linear.specs.Elimination.{table_limit}
use Rattle.table.proofs.row.Row.beyond.Goals as goal

pub returns : goal.returns
returns c =
    any_from_yields_List (above table_limit) _ _ _ c.any.ensures.ran (YieldsList-from_slice (take c.args.w c.args.self.now.cells) cc) (λ x b q k. search rules)
    ∙ any_take (above table_limit) (pos 0) c.args.w c.args.self.now.cells (le-ltb table_limit 0 (omega arith))
