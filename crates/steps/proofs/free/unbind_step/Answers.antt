use Rattle.std.proofs.Common.{◌≡◌, length, vec_len, ℤ, ap, ◌∙◌, w64, rules}
use Rattle.std.proofs.lemmas.Int.{to_z-of_z}
use Rattle.rules.specs.Calls.{unbinding}
use Rattle.rules.specs.Runs as runs
use Rattle.sheets.specs.Shown.{numbers}
use Rattle.steps.specs.Steps.{in_use}
use Rattle.steps.proofs.Steps.{rebound_step}
use Rattle.steps.proofs.free.unbind_step.Goals as goal

pub returns : goal.returns
returns g c =
    let lists = c.args.lists.now in
    let lr : length c.unbind-r.new.relations ≡ vec_len lists.relations = search rules in
    let lq : length c.unbind-r.new.constants ≡ vec_len lists.constants = search rules in
    let read = to_z-of_z w64 c.args.number c.ranges.number in
    let u = in_use g.K.Kind.coords lists (numbers c.args.sheet) runs.free in
    let e = rw (c.deref.ensures.value, c.deref_mut.ensures.value, c.deref_mut-2.ensures.value) at c.unbind-r.ensures in
    rebound_step g.K.Kind.coords lists (numbers c.args.sheet) c.unbind-r.new.self c.unbind-r.new.relations c.unbind-r.new.constants c.unbind-r.result c.done.result _ lr lq
    (e ∙ ap (λ (i : ℤ). unbinding g.K.Kind.size u.sheet u.values u.relations u.constants i) read) c.done.ensures
