use Rattle.std.proofs.Common.{vec_items, refl}
use Rattle.std.proofs.lemmas.Result.{err_from_is_err_and}
use Rattle.lines.specs.Lines.{said}
use Rattle.card.proofs.Ways.{unsaid, written}
use Rattle.card.proofs.write.write_line.Goals as goal

pub returns-in_err-text : goal.returns-in_err-text
returns-in_err-text g c =
    let p = err_from_is_err_and c.from_residual.result c.from_residual.ensures.1 in
    rw (p.1, p.2) (refl, unsaid g.V.Written.form g.met.V.Written.laws c.args.count c.in_err-text.field-0.0 (said c.args.line.now) c.args.out.now c.in_err-text.ensures)

pub returns : goal.returns
returns g c =
    written g.V.Written.form g.met.V.Written.laws c.args.count (said c.args.line.now) (vec_items c.in_ok-text.text) c.as_slice.result.now c.args.out.now c.place_line.new.out c.place_line.result
    c.as_slice.ensures.value c.in_ok-text.ensures c.place_line.ensures
