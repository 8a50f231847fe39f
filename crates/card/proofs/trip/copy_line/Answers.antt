use Rattle.std.proofs.Common.{refl}
use Rattle.lines.specs.Lines.{said}
use Rattle.words.proofs.Appends.{refuses_map}
use Rattle.std.proofs.lemmas.Result.{err_from_is_err_and}
use Rattle.card.proofs.Ways.{copied}
use Rattle.card.proofs.trip.copy_line.Goals as goal

pub returns-in_err-read : goal.returns-in_err-read
returns-in_err-read g c =
    let p = err_from_is_err_and c.from_residual.result c.from_residual.ensures.1 in
    rw (p.1, p.2) (refl, refuses_map c.in_err-read.field-0.0 _ _ (λ none s p. absurd (none s p)) c.in_err-read.ensures)

pub returns : goal.returns
returns g c = copied g.V.Written.form g.met.V.Written.laws c.args.count (said c.in_ok-read.read) _ c.args.line.now c.args.out.now c.write_line.new.out c.write_line.result c.in_ok-read.ensures c.write_line.ensures (cc)
