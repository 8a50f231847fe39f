use Rattle.std.proofs.Common.{◌≡◌, map, length, Err, sym, ap, ◌∙◌, arith, rules}
use Rattle.std.proofs.lemmas.List.{length-take-le}
use Rattle.workings.specs.Shown.{shown}
use Rattle.pulls.specs.Steps.{placed}
use Rattle.pulls.proofs.Proposing.{front, refused, spare, goes_on}
use Rattle.pulls.proofs.pull.solve.Goals as goal

pub finish-requires-clause-spare : goal.finish-requires-clause-spare
finish-requires-clause-spare g c =
    let f = g.K.Kind.coords in
    let t = c.args.task.now in
    let w = shown t.workings.now in
    let m = c.m-m.result in
    let many : m ≡ length t.rows.now = c.m-m.ensures.value ∙ sym t.many in
    let few = c.m-m.ensures.most in
    spare g.K.Kind.size w.count w.roles w.shares t.relations.now (map f t.constants.now) t.rows.now w.table t.d (map f t.values.now) (map f t.wishes.now) t.near _ _ _
    (front f m _ _ few many (omega (arith, c.split_at_mut-left.ensures.front_len, c.requires.working))) (length-take-le m _ (omega (arith, few)) ∙ many)
    (front f m _ _ few many (omega (arith, c.split_at_mut-left.ensures.back_len, c.requires.working))) _ _ _ _ c.write_rows.ensures c.in_ok-write_rows.was

pub returns-in_err-write_rows : goal.returns-in_err-write_rows
returns-in_err-write_rows g c =
    let f = g.K.Kind.coords in
    let t = c.args.task.now in
    let w = shown t.workings.now in
    let m = c.m-m.result in
    let many : m ≡ length t.rows.now = c.m-m.ensures.value ∙ sym t.many in
    let few = c.m-m.ensures.most in
    let e : c.from_residual.result ≡ Err c.in_err-write_rows.field-0.0 = search rules in
    ap (λ r. placed r (map f c.args.proposal.now)) e
    ∙ refused g.K.Kind.size w.count w.roles w.shares t.relations.now (map f t.constants.now) t.rows.now w.table t.d (map f t.values.now) (map f t.wishes.now) t.near _ _ _
    (front f m _ _ few many (omega (arith, c.split_at_mut-left.ensures.front_len, c.requires.working))) (length-take-le m _ (omega (arith, few)) ∙ many)
    (front f m _ _ few many (omega (arith, c.split_at_mut-left.ensures.back_len, c.requires.working))) _ _ _ _ c.write_rows.ensures c.in_err-write_rows.field-0.0 c.in_err-write_rows.was

pub returns : goal.returns
returns g c =
    let f = g.K.Kind.coords in
    let t = c.args.task.now in
    let w = shown t.workings.now in
    let m = c.m-m.result in
    let many : m ≡ length t.rows.now = c.m-m.ensures.value ∙ sym t.many in
    let few = c.m-m.ensures.most in
    c.finish.ensures
    ∙ goes_on g.K.Kind.size w.count w.roles w.shares t.relations.now (map f t.constants.now) t.rows.now w.table t.d (map f t.values.now) (map f t.wishes.now) t.near _ _ _
    (front f m _ _ few many (omega (arith, c.split_at_mut-left.ensures.front_len, c.requires.working))) (length-take-le m _ (omega (arith, few)) ∙ many)
    (front f m _ _ few many (omega (arith, c.split_at_mut-left.ensures.back_len, c.requires.working))) _ _ _ _ c.write_rows.ensures c.in_ok-write_rows.was
