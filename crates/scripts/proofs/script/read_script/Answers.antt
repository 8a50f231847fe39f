use Rattle.std.proofs.Common.{[], ◌∷◌, map, vec_items, ap, ◌∙◌}
use Rattle.std.proofs.lemmas.List.{map-append}
use Rattle.lines.specs.Lines.{said}
use Rattle.calls.specs.Shown.{call_of}
use Rattle.scripts.proofs.Scripts.{fewer, form_refused, call_read}
use Rattle.scripts.proofs.script.read_script.Goals as goal

pub loop-line-smaller-in_ok-push-in-Ok-2 : goal.loop-line-smaller-in_ok-push-in-Ok-2
loop-line-smaller-in_ok-push-in-Ok-2 g c = fewer _ _ _ c.in-Some.ensures

pub loop-line-smaller : goal.loop-line-smaller
loop-line-smaller g c = fewer _ _ _ c.in-Some.ensures

pub loop-line-preserved-in_ok-push-in-Ok-2 : goal.loop-line-preserved-in_ok-push-in-Ok-2
loop-line-preserved-in_ok-push-in-Ok-2 g c =
    let coords = g.V.Kind.coords in
    let call = c.in_ok-call_of-in-Ok.field-0 in
    call_read g.V.Written.form coords c.args.count _ _ _ c.in-Some.line.now c.in-Some.ensures _ _ c.loop-line.invariant _ _ (call_of coords call) (said c.in-Ok.line)
    (ap (map (call_of coords)) c.in_ok-push-in-Ok.ensures.items ∙ map-append (call_of coords) (vec_items c.loop-line.calls) (call ∷ [])) c.in_ok-push-in-Ok-2.ensures.items c.in-Ok.ensures c.in_ok-call_of-in-Ok.ensures

pub loop-line-preserved : goal.loop-line-preserved
loop-line-preserved g c =
    form_refused g.V.Written.form g.V.Kind.coords c.args.count _ _ _ c.in-Some.line.now c.in-Some.ensures _ _ c.loop-line.invariant _ c.in-Err-Form.field-0 c.in_ok-push-in-Err-Form.ensures.items c.in-Err-Form.field-0-is c.in-Err-Form.ensures
