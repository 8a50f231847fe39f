use Rattle.std.proofs.Common.{vec_items, sym, ap, ◌∙◌, subst, w64, SFits, rules}
use Rattle.std.proofs.lemmas.Int.{to_z-of_z}
use Rattle.std.proofs.lemmas.Result.{err_from_is_err_and}
use Rattle.words.specs.Reading.{left}
use Rattle.words.proofs.Appends.{refuses_map}
use Rattle.lines.specs.declared.rest.Rest.{Rest}
use Rattle.lines.specs.Lines.{said, unbinds}
use Rattle.lines.proofs.Sayings.{Unsayable, Begun, refused, more_left, begun_at, begun-bind, begun-unbind, begun-grip, begun-pull, begun-keep, begun-drop, bind-none, bind_no_value, grip-none, pull-none}
use Rattle.lines.proofs.rest.Rest.line.Goals as goal
use Rattle.lines.proofs.rest.Rest.line.Goals.{in-Bind+in_ok-row-in-Bind+in_ok-one-in-Bind, in-Unbind+in_ok-one-in-Unbind, in-Grip+in_ok-row-in-Grip, in-Pull+in_ok-row-in-Pull, in-Keep, in-Drop}

pub returns-in_err-row-in-Bind : goal.returns-in_err-row-in-Bind
returns-in_err-row-in-Bind g c =
    let p = err_from_is_err_and c.from_residual.result c.from_residual.ensures.1 in
    let form = g.V.Written.form in
    let ws = left c.args.self.reader in
    rw (p.1, p.2) (refuses_map c.in_err-row-in-Bind.field-0.0 _ _ (λ none. subst (λ v. Unsayable form c.args.self.count v ws) (sym c.in-Bind.is) (bind-none form c.args.self.count ws none)) c.in_err-row-in-Bind.ensures.read)

pub returns-in_err-one-in-Bind : goal.returns-in_err-one-in-Bind
returns-in_err-one-in-Bind g c =
    let p = err_from_is_err_and c.from_residual-in_err-one-in-Bind.result c.from_residual-in_err-one-in-Bind.ensures.1 in
    let form = g.V.Written.form in
    let ws = left c.args.self.reader in
    rw (p.1, p.2) (refused c.in_err-one-in-Bind.field-0.0 _ (subst (λ v. Unsayable form c.args.self.count v ws) (sym c.in-Bind.is)
    (bind_no_value form c.args.self.count ws (left c.row.new.self.reader) (left c.one.new.self.reader) (vec_items c.in_ok-row-in-Bind.field-0) c.in_ok-row-in-Bind.ensures.read c.in_err-one-in-Bind.ensures.read)))

pub returns-in_err-row-in-Grip : goal.returns-in_err-row-in-Grip
returns-in_err-row-in-Grip g c =
    let p = err_from_is_err_and c.from_residual-in_err-row-in-Grip.result c.from_residual-in_err-row-in-Grip.ensures.1 in
    let form = g.V.Written.form in
    let ws = left c.args.self.reader in
    rw (p.1, p.2) (refuses_map c.in_err-row-in-Grip.field-0.0 _ _ (λ none. subst (λ v. Unsayable form c.args.self.count v ws) (sym c.in-Grip.is) (grip-none form c.args.self.count ws none)) c.in_err-row-in-Grip.ensures.read)

pub returns-in_err-row-in-Pull : goal.returns-in_err-row-in-Pull
returns-in_err-row-in-Pull g c =
    let p = err_from_is_err_and c.from_residual-in_err-row-in-Pull.result c.from_residual-in_err-row-in-Pull.ensures.1 in
    let form = g.V.Written.form in
    let ws = left c.args.self.reader in
    rw (p.1, p.2) (refuses_map c.in_err-row-in-Pull.field-0.0 _ _ (λ none. subst (λ v. Unsayable form c.args.self.count v ws) (sym c.in-Pull.is) (pull-none form c.args.self.count ws none)) c.in_err-row-in-Pull.ensures.read)

pub returns-in_err-end : goal.returns-in_err-end
returns-in_err-end g c =
    let p = err_from_is_err_and c.from_residual-in_err-end.result c.from_residual-in_err-end.ensures.1 in
    let form = g.V.Written.form in
    let count = c.args.self.count in
    let ws = left c.args.self.reader in
    let begun : Begun form count c.args.verb ws (left c.match-verb.self.reader) (said {V = g.row.V.Denot} c.match-verb.line) = elim c.match-verb.branch [
      | in-Bind+in_ok-row-in-Bind+in_ok-one-in-Bind w ↦
          begun_at form count _ _ ws _ _ _ _ (begun-bind form count ws (left w.row.new.self.reader) (left w.one.new.self.reader) (vec_items w.in_ok-row-in-Bind.field-0) w.in_ok-one-in-Bind.field-0 w.in_ok-row-in-Bind.ensures.read w.in_ok-one-in-Bind.ensures.read)
          w.in-Bind.is (ap (λ (r : Rest). left r.reader) w.self-is) (ap (said {V = g.row.V.Denot}) w.line-is)
      | in-Unbind+in_ok-one-in-Unbind w ↦
          let f : SFits w64 w.in_ok-one-in-Unbind.field-0 = search rules in
          begun_at form count _ _ ws _ _ _ _ (begun-unbind form count ws (left w.one-in-Unbind.new.self.reader) w.in_ok-one-in-Unbind.field-0 w.in_ok-one-in-Unbind.ensures.read)
          w.in-Unbind.is (ap (λ (r : Rest). left r.reader) w.self-is) (ap (said {V = g.row.V.Denot}) w.line-is ∙ ap unbinds (to_z-of_z w64 _ f))
      | in-Grip+in_ok-row-in-Grip w ↦
          begun_at form count _ _ ws _ _ _ _ (begun-grip form count ws (left w.row-in-Grip.new.self.reader) (vec_items w.in_ok-row-in-Grip.field-0) w.in_ok-row-in-Grip.ensures.read)
          w.in-Grip.is (ap (λ (r : Rest). left r.reader) w.self-is) (ap (said {V = g.row.V.Denot}) w.line-is)
      | in-Pull+in_ok-row-in-Pull w ↦
          begun_at form count _ _ ws _ _ _ _ (begun-pull form count ws (left w.row-in-Pull.new.self.reader) (vec_items w.in_ok-row-in-Pull.field-0) w.in_ok-row-in-Pull.ensures.read)
          w.in-Pull.is (ap (λ (r : Rest). left r.reader) w.self-is) (ap (said {V = g.row.V.Denot}) w.line-is)
      | in-Keep w ↦ begun_at form count _ _ ws _ _ _ _ (begun-keep form count ws) w.in-Keep.is (ap (λ (r : Rest). left r.reader) w.self-is) (ap (said {V = g.row.V.Denot}) w.line-is)
      | in-Drop w ↦ begun_at form count _ _ ws _ _ _ _ (begun-drop form count ws) w.in-Drop.is (ap (λ (r : Rest). left r.reader) w.self-is) (ap (said {V = g.row.V.Denot}) w.line-is)
    ] in
    rw (p.1, p.2) (refused c.in_err-end.field-0.0 _ (more_left form count c.args.verb ws (left c.match-verb.self.reader) (said {V = g.row.V.Denot} c.match-verb.line) begun c.in_err-end.ensures.read))
