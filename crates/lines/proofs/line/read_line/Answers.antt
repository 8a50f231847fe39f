use Rattle.std.proofs.Common.{Some, subst}
use Rattle.std.proofs.lemmas.Result.{err_from_is_err_and}
use Rattle.words.specs.Reading.{left}
use Rattle.words.proofs.Appends.{form_refused}
use Rattle.forms.specs.Keywords.{KeywordRead}
use Rattle.cells.specs.Verbs.{verb_word}
use Rattle.lines.proofs.Whole.{no_line, line_done}
use Rattle.lines.proofs.line.read_line.Goals as goal

pub returns-in_err-verb : goal.returns-in_err-verb
returns-in_err-verb g c =
    let p = err_from_is_err_and c.from_residual.result c.from_residual.ensures.1 in
    let line = c.args.line.now in
    rw (p.1, p.2) (form_refused c.read_keyword.result c.in_err-verb.field-0.0 _ c.in_err-verb.ensures.value (λ none.
    no_line g.V.Written.form g.met.V.Written.laws c.args.count line (subst (KeywordRead verb_word line) none c.read_keyword.ensures)))

pub returns : goal.returns
returns g c =
    let line = c.args.line.now in
    let read = subst (KeywordRead verb_word line) {x = c.read_keyword.result} {y = Some (c.in_ok-verb.verb, c.in_ok-verb.reader)} c.in_ok-verb.ensures.ok_part c.read_keyword.ensures in
    line_done g.V.Written.form g.met.V.Written.laws c.args.count line read.0 (left c.in_ok-verb.reader) c.in_ok-verb.verb read.1 read.2 c.line.result c.line.ensures
