use Rattle.std.proofs.Common.{◌≡◌, vec_items, vec_len, sym, refl, ap, ◌∙◌, subst, arith, rules}
use Rattle.std.proofs.lemmas.Bool.{false≢true}
use Rattle.std.proofs.lemmas.Result.{err_from_is_err_and}
use Rattle.words.specs.Reading.{left}
use Rattle.words.proofs.Appends.{form_refused}
use Rattle.heading.specs.Names.{NameRead, texts}
use Rattle.heading.proofs.Rows.{Taken, has_same, texts_push, vec_texts, taken_none, no_name, too_many, twice, taken_more, nothing, taken_all}
use Rattle.heading.proofs.read.read_names.Goals as goal
use Rattle.heading.proofs.read.read_names.Goals.{then-len-ge-NAMES-via-then-len-ge-NAMES, then-len-ge-NAMES-via-else-len-ge-NAMES+then-holds}

pub loop-reader-init : goal.loop-reader-init
loop-reader-init c = (subst (Taken (left c.args.reader.now) (left c.args.reader.now)) (sym (ap texts c.new-names.ensures.items)) (taken_none (left c.args.reader.now)), c.requires)

pub returns-in_err-name : goal.returns-in_err-name
returns-in_err-name c =
    let p = err_from_is_err_and c.from_residual.result c.from_residual.ensures.1 in
    let rest = left c.loop-reader.reader in
    let after = left c.next_name.new.reader in
    rw (p.1, p.2) (form_refused c.next_name.result c.in_err-name.field-0.0 _ c.in_err-name.ensures.value (λ none.
    no_name (left c.args.reader.now) rest (texts (vec_items c.loop-reader.names)) c.loop-reader.invariant.0 after c.loop-reader-test.ensures (subst (NameRead rest after) none c.next_name.ensures.read)))

pub returns-then-len-ge-NAMES : goal.returns-then-len-ge-NAMES
returns-then-len-ge-NAMES c =
    let all = left c.args.reader.now in
    let rest = left c.loop-reader.reader in
    let after = left c.next_name.new.reader in
    let names = vec_items c.loop-reader.names in
    let read = subst (NameRead rest after) c.in_ok-name.ensures.ok_part c.next_name.ensures.read in
    elim c.then-len-ge-NAMES.branch [
      | then-len-ge-NAMES-via-then-len-ge-NAMES w ↦ too_many all rest (texts names) c.loop-reader.invariant.0 _ after read.1 (omega (arith, vec_texts c.loop-reader.names, c.len.ensures, w.if-len-ge-NAMES.true))
      | then-len-ge-NAMES-via-else-len-ge-NAMES+then-holds w ↦ twice all rest (texts names) c.loop-reader.invariant.0 _ after read.1 ((has_same _ names _ _ w.as_slice.ensures.value w.if-holds.ensures).0 refl)
    ]

pub loop-reader-preserved : goal.loop-reader-preserved
loop-reader-preserved c =
    let all = left c.args.reader.now in
    let rest = left c.loop-reader.reader in
    let after = left c.next_name.new.reader in
    let names = vec_items c.loop-reader.names in
    let read = subst (NameRead rest after) c.in_ok-name.ensures.ok_part c.next_name.ensures.read in
    let fresh = has_same _ names _ _ c.as_slice.ensures.value c.if-holds.ensures in
    let more = taken_more all rest (texts names) c.loop-reader.invariant.0 c.in_ok-name.name.now after read.1 (omega (arith, vec_texts c.loop-reader.names, c.len.ensures, c.if-len-ge-NAMES.false)) read.0
    (λ h. false≢true (fresh.1 h)) in
    (subst (Taken all after) (sym (ap texts c.in_ok-push.ensures.items ∙ texts_push names c.in_ok-name.name)) more, search rules)

pub returns-then-is_empty : goal.returns-then-is_empty
returns-then-is_empty c =
    let none : vec_len c.loop-reader.names ≡ 0 = search rules in
    nothing (left c.args.reader.now) (left c.loop-reader.reader) (texts (vec_items c.loop-reader.names)) c.loop-reader.invariant.0 c.loop-reader-test.ensures (vec_texts c.loop-reader.names ∙ none)

pub returns : goal.returns
returns c =
    let some : (vec_len c.loop-reader.names ≡ 0 → ⊥) = search rules in
    taken_all (left c.args.reader.now) (left c.loop-reader.reader) (texts (vec_items c.loop-reader.names)) c.loop-reader.invariant.0 c.loop-reader-test.ensures (λ e. some (sym (vec_texts c.loop-reader.names) ∙ e))
