use Rattle.std.proofs.Common.{rules, ◌∙◌, ℕ, replicate, pos, arith}
use Rattle.std.proofs.lemmas.Iterator.{YieldsList-from_range, YieldsList-from_map_by}
use Rattle.std.proofs.lemmas.Iterator.Consumers.{map_from_collect}
use Rattle.std.proofs.lemmas.Result.{IfOk-weaker}
use Rattle.steps.proofs.Zeros.{zeros_from}
use Rattle.steps.proofs.lists.zeros_of.Goals as goal

pub returns : goal.returns
returns g c =
    let f = g.K.Kind.coords in
    let size = g.K.Kind.size in
    let n = c.args.n in
    IfOk-weaker c.collect.result _ _ (λ v e. e ∙ zeros_from n 0 size)
    (map_from_collect c.collect.result c.collect.ensures.ran (YieldsList-from_map_by _ f (λ (k : ℕ). replicate size (pos 0)) (YieldsList-from_range 0 n n (cc) (omega arith)) (cc) (λ x r q k. search rules)))
