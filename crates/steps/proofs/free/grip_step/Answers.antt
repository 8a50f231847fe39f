use Rattle.std.proofs.Common.{◌≡◌, ℕ, ◌-◌, List, length, take, Ok, vec_items, vec_len, sym, refl, ap, ◌∙◌, subst, arith, rules}
use Rattle.std.specs.Vec.{with_items}
use Rattle.std.proofs.lemmas.List.{with_items_is}
use Rattle.sheets.specs.Shown.{numbers}
use Rattle.workings.specs.Shown.{shown}
use Rattle.grips.specs.Shown.{gripped_sheet}
use Rattle.steps.specs.declared.lists.Lists.{Lists}
use Rattle.rules.specs.Runs as runs
use Rattle.steps.specs.Steps.{in_use, Means}
use Rattle.steps.proofs.Steps.{stepped_in}
use Rattle.steps.proofs.Gripping.{listed_within, gripped-step, refused_step}
use Rattle.steps.proofs.free.grip_step.Goals as goal

pub slice_bounds-gripped-end : goal.slice_bounds-gripped-end
slice_bounds-gripped-end g c =
    let lists = c.args.lists.now in
    let ls : length c.take.new.spare ≡ vec_len lists.spare = search rules in
    let rs = with_items_is lists.spare c.take.new.spare ls in
    let e = c.in-Ok.ensures in
    let w = listed_within _ c.in-Ok.taken.spares _ c.take.new.spare e.spares in
    let v = ap length (c.as_slice.ensures.value ∙ rs) in
    omega (arith, w, v)

pub returns-in-Ok : goal.returns-in-Ok
returns-in-Ok g c =
    let f = g.K.Kind.coords in
    let lists = c.args.lists.now in
    let lr : length c.take.new.relations ≡ vec_len lists.relations = search rules in
    let rr = with_items_is lists.relations c.take.new.relations lr in
    let ls : length c.take.new.spare ≡ vec_len lists.spare = search rules in
    let rs = with_items_is lists.spare c.take.new.spare ls in
    let k : length (vec_items lists.spare) ≡ vec_len lists.spare = search rules in
    let after : Lists g.row.K.Denot = record { values = lists.values; relations = with_items lists.relations c.take.new.relations; constants = lists.constants; proposal = lists.proposal; working = lists.working; spare = with_items lists.spare c.take.new.spare } in
    let e = c.in-Ok.ensures in
    let s = numbers c.args.sheet in
    let t = gripped_sheet c.in-Ok.taken.grip in
    let w = shown c.in-Ok.taken.workings in
    let n = c.in-Ok.taken.spares in
    let all : n - 0 ≡ n = omega arith in
    let told : take (n - 0) c.as_slice.result.now ≡ take n c.take.new.spare = λ i. take (all i) ((c.as_slice.ensures.value ∙ rs) i) in
    stepped_in f (runs.grips g.K.Kind.size (in_use f lists s runs.free) c.args.roles.now) after t (runs.gripped w) (Ok (runs.spares (take (n - 0) c.as_slice.result.now)))
    (λ x m.
    gripped-step f g.K.Kind.size lists after s c.args.roles.now
    c.deref.result.now c.deref_mut.result.now c.deref-2.result.now c.deref_mut-2.result.now
    c.deref.ensures.value c.deref_mut.ensures.value c.deref-2.ensures.value c.deref_mut-2.ensures.value
    refl refl refl refl (ap length rs ∙ ls ∙ sym k)
    (rr ∙ e.marks) t w n c.take.new.spare x e.result e.spares
    (subst (λ (ns : List ℕ). Means f t (runs.gripped w) (Ok (runs.spares ns)) x) told m))
    c.gripped.result c.gripped.ensures

pub returns-in-Err : goal.returns-in-Err
returns-in-Err g c =
    let f = g.K.Kind.coords in
    let lists = c.args.lists.now in
    let lr : length c.take.new.relations ≡ vec_len lists.relations = search rules in
    let rr = with_items_is lists.relations c.take.new.relations lr in
    let ls : length c.take.new.spare ≡ vec_len lists.spare = search rules in
    let rs = with_items_is lists.spare c.take.new.spare ls in
    let k : length (vec_items lists.spare) ≡ vec_len lists.spare = search rules in
    let after : Lists g.row.K.Denot = record { values = lists.values; relations = with_items lists.relations c.take.new.relations; constants = lists.constants; proposal = lists.proposal; working = lists.working; spare = with_items lists.spare c.take.new.spare } in
    let e = c.in-Err.ensures in
    refused_step f g.K.Kind.size lists after (numbers c.args.sheet) c.args.roles.now
    c.deref.result.now c.deref_mut.result.now c.deref-2.result.now c.deref_mut-2.result.now
    c.deref.ensures.value c.deref_mut.ensures.value c.deref-2.ensures.value c.deref_mut-2.ensures.value
    refl refl refl refl (ap length rs ∙ ls ∙ sym k)
    (rr ∙ e.marks) (numbers c.in-Err.field-0.back) c.in-Err.field-0.refusal _ e.result (record { state = λ l. refl; answer = refl })
