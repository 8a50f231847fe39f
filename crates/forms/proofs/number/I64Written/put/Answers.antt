use Rattle.std.proofs.Common.{vec_items, sym, subst, w64}
use Rattle.std.proofs.lemmas.Int.{to_z-of_z}
use Rattle.std.proofs.lemmas.Bool.{false≢true}
use Rattle.words.specs.Numbers.{Short}
use Rattle.words.proofs.Digits.{number_short}
use Rattle.forms.specs.Laws.{put_number}
use Rattle.forms.proofs.number.I64Written.put.Goals as goal

pub returns-then-not-short : goal.returns-then-not-short
returns-then-not-short c =
    let same = to_z-of_z w64 c.args.self c.ranges.self in
    λ w p. false≢true (c.if-not-short.ensures.1 (subst Short (sym same) (number_short w _ p)))

pub returns : goal.returns
returns c =
    let same = to_z-of_z w64 c.args.self c.ranges.self in
    put_number c.append_number.result c.args.self _ (vec_items c.args.out.now) (vec_items c.append_number.new.out) same (subst Short same (c.short.ensures.0 c.if-not-short.false)) c.append_number.ensures
