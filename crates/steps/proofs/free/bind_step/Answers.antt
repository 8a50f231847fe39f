use Rattle.std.proofs.Common.{◌≡◌, length, vec_len, rules}
use Rattle.sheets.specs.Shown.{numbers}
use Rattle.steps.proofs.Steps.{rebound_step}
use Rattle.steps.proofs.free.bind_step.Goals as goal

pub returns : goal.returns
returns g c =
    let lists = c.args.lists.now in
    let lr : length c.bind-r.new.relations ≡ vec_len lists.relations = search rules in
    let lq : length c.bind-r.new.constants ≡ vec_len lists.constants = search rules in
    let e = rw (c.deref.ensures.value, c.deref_mut.ensures.value, c.deref_mut-2.ensures.value) at c.bind-r.ensures in
    rebound_step g.K.Kind.coords lists (numbers c.args.sheet) c.bind-r.new.self c.bind-r.new.relations c.bind-r.new.constants c.bind-r.result c.done.result _ lr lq e c.done.ensures
