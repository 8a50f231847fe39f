use Rattle.std.proofs.Common.{[], ◌∙◌, rules}
use Rattle.std.proofs.lemmas.Iterator.{YieldsList-from_slice}
use Rattle.std.proofs.lemmas.Iterator.Search.{any_from_yields_List}
use Rattle.records.specs.declared.relation.Mark.TheVariants.{Idle}
use Rattle.records.specs.declared.relation.Relation.{Relation}
use Rattle.whole.proofs.Chains.{any_list}
use Rattle.rules.specs.Sheets.{bad_coefs}
use Rattle.workings.proofs.choosing.some_out_of_range.Goals as goal

pub returns : goal.returns
returns c =
    let test = λ (r : Relation). bad_coefs c.args.n r.coefficients in
    any_from_yields_List test _ _ _ c.any.ensures.ran (YieldsList-from_slice c.args.relations.now cc) (λ x b q k. search rules)
    ∙ any_list test (record { coefficients = []; mark = Idle }) c.args.relations.now
