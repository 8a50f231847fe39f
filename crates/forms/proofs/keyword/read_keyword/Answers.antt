use Rattle.std.proofs.Common.{Some, None}
use Rattle.words.specs.Reading.{left}
use Rattle.forms.specs.Leads.{first_read}
use Rattle.forms.proofs.Keywords.{no_words, no_value, found}
use Rattle.forms.proofs.keyword.read_keyword.Goals as goal

pub returns-in_err-text : goal.returns-in_err-text
returns-in_err-text g c = rw c.from_residual.ensures (λ t x rest l p. c.in_err-text.ensures t l)

pub returns-in_err-word : goal.returns-in_err-word
returns-in_err-word g c =
    rw c.from_residual-in_err-word.ensures (no_words g.K.Keyword.spelled c.args.line.now c.in_ok-text.text.now c.in_ok-text.ensures c.new-reader.result c.new-reader.ensures.words c.in_err-word.ensures.0)

pub returns-in_err-value : goal.returns-in_err-value
returns-in_err-value g c =
    let start = c.new-reader.result in
    let next = c.next.new.self in
    rw c.from_residual-in_err-value.ensures (no_value g.K.Keyword.spelled c.args.line.now c.in_ok-text.text.now c.in_ok-text.ensures start c.new-reader.ensures.words (left next)
    (first_read g.K.Keyword.spelled g.met.K.Keyword.laws.sorted start next c.in_ok-word.word None c.new-reader.ensures.first c.in_ok-word.ensures c.in_err-value.ensures))

pub returns : goal.returns
returns g c =
    let start = c.new-reader.result in
    let next = c.next.new.self in
    let value = c.in_ok-value.value in
    found g.K.Keyword.spelled c.args.line.now c.in_ok-text.text.now c.in_ok-text.ensures start c.new-reader.ensures.words next value
    (first_read g.K.Keyword.spelled g.met.K.Keyword.laws.sorted start next c.in_ok-word.word (Some value) c.new-reader.ensures.first c.in_ok-word.ensures c.in_ok-value.ensures) c.in_ok-word.ensures.1
