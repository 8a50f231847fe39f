use Rattle.std.proofs.Common.{vec_items, sym, ap, ◌∙◌, w64, SFits, to_z, of_z, rules}
use Rattle.std.proofs.lemmas.Int.{to_z-of_z}
use Rattle.lines.specs.Lines.{said, binds, unbinds}
use Rattle.card.proofs.Putting.{put_said, put_constant}
use Rattle.card.proofs.draft.Draft.put_rest.Goals as goal

pub returns-in_ok-put_row-in-Bind : goal.returns-in_ok-put_row-in-Bind
returns-in_ok-put_row-in-Bind g c =
    let form = g.V.Written.form in
    let count = c.args.self.now.count in
    let before = vec_items c.args.self.now.text in
    let after = vec_items c.put_one.new.self.text in
    put_said form count c.put_one.result (binds c.as_slice.result.now c.in-Bind.constant) (said c.args.line.now) before after (ap (said {V = g.row.V.Denot}) c.in-Bind.is ∙ ap (λ l. binds l c.in-Bind.constant) (sym c.as_slice.ensures.value))
    (put_constant form count c.put_one.result c.as_slice.result.now c.in-Bind.constant before (vec_items c.put_row.new.self.text) after c.in_ok-put_row-in-Bind.ensures.put c.put_one.ensures.put)

pub returns-in-Unbind : goal.returns-in-Unbind
returns-in-Unbind g c =
    let f : SFits w64 c.in-Unbind.number = search rules in
    put_said g.V.Written.form c.args.self.now.count c.put_one-in-Unbind.result (unbinds (to_z w64 (of_z w64 c.in-Unbind.number))) (said c.args.line.now) (vec_items c.args.self.now.text) (vec_items c.put_one-in-Unbind.new.self.text)
    (ap (said {V = g.row.V.Denot}) c.in-Unbind.is ∙ ap unbinds (sym (to_z-of_z w64 _ f))) c.put_one-in-Unbind.ensures.put
