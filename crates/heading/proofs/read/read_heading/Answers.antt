use Rattle.std.proofs.Common.{vec_items, subst, rules}
use Rattle.std.proofs.lemmas.Result.{err_from_is_err_and}
use Rattle.words.specs.Reading.{left}
use Rattle.words.proofs.Appends.{form_refused, refuses_map}
use Rattle.forms.specs.Keywords.{KeywordRead}
use Rattle.heading.specs.Names.{texts}
use Rattle.heading.specs.Headings.{kind_word}
use Rattle.heading.proofs.Heads.{head_none, head_names, head_done}
use Rattle.heading.proofs.read.read_heading.Goals as goal

pub returns-in_err-kind : goal.returns-in_err-kind
returns-in_err-kind c =
    let p = err_from_is_err_and c.from_residual.result c.from_residual.ensures.1 in
    let line = c.args.line.now in
    rw (p.1, p.2) (form_refused c.read_keyword.result c.in_err-kind.field-0.0 _ c.in_err-kind.ensures.value (λ none. head_none line (subst (KeywordRead kind_word line) none c.read_keyword.ensures)))

pub returns-in_err-names : goal.returns-in_err-names
returns-in_err-names c =
    let p = err_from_is_err_and c.from_residual-in_err-names.result c.from_residual-in_err-names.ensures.1 in
    let line = c.args.line.now in
    let read = subst (KeywordRead kind_word line) c.in_ok-kind.ensures.ok_part c.read_keyword.ensures in
    rw (p.1, p.2) (refuses_map c.in_err-names.field-0.0 _ _ (head_names line c.in_ok-kind.kind read.0 (left c.in_ok-kind.reader) read.1 read.2) c.in_err-names.ensures)

pub returns : goal.returns
returns c =
    let line = c.args.line.now in
    let read = subst (KeywordRead kind_word line) c.in_ok-kind.ensures.ok_part c.read_keyword.ensures in
    let done = head_done line c.in_ok-kind.kind read.0 (left c.in_ok-kind.reader) read.1 read.2 (texts (vec_items c.in_ok-names.names)) c.in_ok-names.ensures.0 c.in_ok-names.ensures.1 in
    search rules
