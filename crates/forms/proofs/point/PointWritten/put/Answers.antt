use Rattle.std.proofs.Common.{vec_items, sym, subst, arith, w64, SFits, rules}
use Rattle.std.proofs.lemmas.Result.{err_from_is_err_and}
use Rattle.std.proofs.lemmas.Int.{ints, to_z-of_z}
use Rattle.words.specs.Numbers.{Number}
use Rattle.words.proofs.Appends.{refuses_map}
use Rattle.forms.specs.Points.{put_point}
use Rattle.forms.proofs.point.PointWritten.put.Goals as goal

pub returns-in_err-put : goal.returns-in_err-put
returns-in_err-put c =
    let f : SFits w64 c.args.self.x = search rules in
    let p = err_from_is_err_and c.from_residual.result c.from_residual.ensures.1 in
    rw (p.1, p.2) (refuses_map c.in_err-put.field-0.0 _ _ (λ none w q. none q.first (subst (Number q.first) (sym (to_z-of_z w64 _ f)) q.left)) c.in_err-put.ensures)

pub returns : goal.returns
returns c =
    let fx : SFits w64 c.args.self.x = search rules in
    let fy : SFits w64 c.args.self.y = search rules in
    let told = c.in_ok-put.ensures in
    put_point c.put-2.result c.args.self _ _ (vec_items c.args.out.now) (vec_items c.put.new.out) (vec_items c.append_bytes.new.out) (vec_items c.put-2.new.out) told.0 _
    told.1 told.2 c.in_ok-append_bytes.ensures (omega arith) c.put-2.ensures (omega (arith, ints)) (omega (arith, ints))
