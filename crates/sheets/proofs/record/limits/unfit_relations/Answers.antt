use Rattle.std.proofs.Common.{rules, Bool, List, [], take, ℤ, ◌∙◌, arith}
use Rattle.std.proofs.lemmas.List.{length-map}
use Rattle.std.proofs.lemmas.Bool.{le-ltb}
use Rattle.std.proofs.lemmas.Iterator.Search.{any_from_yields_List}
use Rattle.std.proofs.lemmas.Iterator.{YieldsList-from_slice, YieldsList-from_zip}
use Rattle.whole.proofs.Chains.{any_zip_take}
use Rattle.records.specs.declared.relation.Mark.TheVariants.{Idle}
use Rattle.records.specs.declared.relation.Relation.{Relation}
use Rattle.rules.specs.Sheets.{bad_relation}
use Rattle.sheets.proofs.record.limits.unfit_relations.Goals as goal

pub returns : goal.returns
returns g c =
    let f = g.K.Kind.coords in
    let s = c.args.sheet.now in
    let rs = c.args.relations.now in
    let qs = c.args.constants.now in
    let n = length-map qs f in
    let bad : Relation → List ℤ → Bool = λ r q. bad_relation g.K.Kind.size s.count r q in
    let found = any_from_yields_List (λ q. bad q.0 (f q.1)) c.any.new.self _ _ c.any.ensures.ran (YieldsList-from_zip (YieldsList-from_slice (take s.bound rs) cc) (YieldsList-from_slice qs cc)) (λ x b q k. search rules)
    ∙ any_zip_take f bad (record { coefficients = []; mark = Idle }) [] s.bound rs qs (omega arith) (omega arith) in
    rw (n, le-ltb _ _ c.if-relations-lt-MOST_RELATIONS.false, le-ltb _ _ c.if-constants-lt-MOST_RELATIONS.false) found
