use Rattle.std.proofs.Common.{vec_items, ◌∙◌}
use Rattle.std.proofs.lemmas.Result.{err_from_is_err_and}
use Rattle.card.proofs.Putting.{put_more, put_none}
use Rattle.words.proofs.Appends.{refuses_map}
use Rattle.card.proofs.draft.Draft.put_row.Goals as goal

pub loop-value-preserved : goal.loop-value-preserved
loop-value-preserved g c = record {
  stays = c.in_ok-put_one.ensures.stays ∙ c.loop-value.invariant.stays;
  put = put_more g.V.Written.form c.args.values.now c.loop-value.value-index c.value-item.result (vec_items c.args.self.now.text) (vec_items c.loop-value.self.text) (vec_items c.put_one.new.self.text) c.loop-value-test.true c.value-item.is c.loop-value.invariant.put c.in_ok-put_one.ensures.put;
}

pub returns-in_err-put_one-clause-stays : goal.returns-in_err-put_one-clause-stays
returns-in_err-put_one-clause-stays g c = c.in_err-put_one.ensures.stays ∙ c.loop-value.invariant.stays

pub returns-in_err-put_one-clause-put : goal.returns-in_err-put_one-clause-put
returns-in_err-put_one-clause-put g c =
    let p = err_from_is_err_and c.from_residual.result c.from_residual.ensures.1 in
    rw (p.1, p.2) (refuses_map c.in_err-put_one.field-0.0 _ _ (λ none ws row. put_none g.V.Written.form c.args.values.now c.loop-value.value-index c.value-item.result c.loop-value-test.true c.value-item.is none ws row.1) c.in_err-put_one.ensures.put)
