use Rattle.std.proofs.Common.{sym, ◌∙◌, subst, arith, w64, SFits, rules}
use Rattle.std.proofs.lemmas.Int.{ints}
use Rattle.words.specs.Numbers.{Number}
use Rattle.forms.proofs.Points.{no_comma, around, halves, front, behind}
use Rattle.forms.proofs.point.parse_point.Goals as goal

pub returns-in_err-comma : goal.returns-in_err-comma
returns-in_err-comma c = rw c.from_residual.ensures (no_comma c.args.bytes.now (sym c.place_of.ensures ∙ c.in_err-comma.was))

pub returns-in_err-x : goal.returns-in_err-x
returns-in_err-x c = rw c.from_residual-in_err-x.ensures (λ p f. c.in_err-x.ensures p.x (halves c.args.bytes.now c.in_ok-comma.comma (sym c.in_ok-comma.ensures) p f).0)

pub returns-in_err-y : goal.returns-in_err-y
returns-in_err-y c = rw c.from_residual-in_err-y.ensures (λ p f. c.in_err-y.ensures p.y (halves c.args.bytes.now c.in_ok-comma.comma (sym c.in_ok-comma.ensures) p f).1)

pub returns : goal.returns
returns c =
    let fx : SFits w64 c.in_ok-x.x = search rules in
    let fy : SFits w64 c.in_ok-y.y = search rules in
    record {
      first = front c.args.bytes.now c.in_ok-comma.comma;
      second = behind c.args.bytes.now c.in_ok-comma.comma;
      comma = around c.args.bytes.now c.in_ok-comma.comma (sym c.in_ok-comma.ensures);
      left = subst (Number _) (omega (arith, ints)) c.in_ok-x.ensures;
      right = subst (Number _) (omega (arith, ints)) c.in_ok-y.ensures;
    }
