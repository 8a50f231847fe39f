use Rattle.std.proofs.Common.{◌++◌, vec_items, ap, ◌∙◌, arith}
use Rattle.std.proofs.lemmas.List.{take_all}
use Rattle.words.specs.Words.{spaced}
use Rattle.heading.specs.Names.{texts}
use Rattle.heading.proofs.Rows.{length-texts, texts-at}
use Rattle.words.proofs.Cuts.{spaced_more}
use Rattle.heading_write.proofs.write.put_names.Goals as goal

pub loop-name-preserved : goal.loop-name-preserved
loop-name-preserved c =
    let names = texts c.args.names.now in
    let size = length-texts c.args.names.now in
    spaced_more names c.loop-name.name-index _ (vec_items c.args.out.now) (vec_items c.loop-name.out) (vec_items c.append_bytes.new.out) (vec_items c.append_bytes-in-loop-name.new.out) _ (omega arith)
    (texts-at c.args.names.now c.loop-name.name-index _ c.loop-name-test.true) c.loop-name.invariant c.in_ok-append_bytes.ensures (omega arith) c.in_ok-append_bytes-2.ensures

pub returns : goal.returns
returns c =
    let names = texts c.args.names.now in
    let size = length-texts c.args.names.now in
    c.loop-name.invariant ∙ ap (λ ws. vec_items c.args.out.now ++ spaced ws) (take_all c.loop-name.name-index names (omega arith))
