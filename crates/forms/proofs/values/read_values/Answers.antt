use Rattle.std.proofs.Common.{Some, vec_items, subst}
use Rattle.std.proofs.lemmas.Result.{err_from_is_err_and}
use Rattle.words.specs.Reading.{left}
use Rattle.words.proofs.Appends.{form_refused}
use Rattle.forms.specs.Rows.{OneRead}
use Rattle.forms.proofs.Rows.{one_more, no_more}
use Rattle.forms.proofs.values.read_values.Goals as goal

pub returns-in_err-value : goal.returns-in_err-value
returns-in_err-value g c =
    let form = g.V.Written.form in
    let p = err_from_is_err_and c.from_residual.result c.from_residual.ensures.1 in
    let after = left c.read_value.new.reader in
    rw (p.1, p.2) (form_refused c.read_value.result c.in_err-value.field-0.0 _ c.in_err-value.ensures.value (λ none.
    no_more form c.loop-i.i c.args.count (left c.args.reader.now) (left c.loop-i.reader) after (vec_items c.loop-i.values) c.loop-i-test.true c.loop-i.invariant
    (subst (OneRead form (left c.loop-i.reader) after) none c.read_value.ensures)))

pub loop-i-preserved : goal.loop-i-preserved
loop-i-preserved g c =
    let form = g.V.Written.form in
    let before = left c.loop-i.reader in
    let after = left c.read_value.new.reader in
    let value = subst (OneRead form before after) {x = c.read_value.result} {y = Some c.in_ok-value.value} c.in_ok-value.ensures.ok_part c.read_value.ensures in
    one_more form c.loop-i.i (left c.args.reader.now) before after (vec_items c.loop-i.values) (vec_items c.push.new.self) c.in_ok-value.value c.in_ok-push.ensures.items c.loop-i.invariant value
