use Rattle.std.proofs.Common.{◌≡◌, ◌-◌, List, map, length, take, ℤ, Ok, box_value, sym, refl, ap, ◌∙◌, subst, arith, w64, SFits, to_z, of_z, rules}
use Rattle.std.specs.Vec.{with_items}
use Rattle.std.proofs.lemmas.List.{with_items_is, length-map, take-map}
use Rattle.std.proofs.lemmas.Int.{to_z-of_z}
use Rattle.rules.specs.Runs as runs
use Rattle.rules.specs.Values.{Coords}
use Rattle.workings.specs.Shown.{shown}
use Rattle.grips.specs.Shown.{gripped_sheet}
use Rattle.steps.specs.declared.lists.Lists.{Lists}
use Rattle.steps.specs.Steps.{in_use, Means}
use Rattle.steps.proofs.Steps.{stepped_in}
use Rattle.steps.proofs.Pulls.{room_for, pulled_step, unpulled_step}
use Rattle.steps.proofs.gripped.pull_step.Goals as goal

pub slice_bounds-proposed-end : goal.slice_bounds-proposed-end
slice_bounds-proposed-end g c =
    let f = g.K.Kind.coords in
    let size = g.K.Kind.size in
    let lists = c.args.lists.now in
    let rp = with_items_is lists.proposal c.pull.new.proposal (c.pull.auto.proposal ∙ c.deref_mut.ensures.len) in
    let rk = with_items_is lists.working c.pull.new.working (c.pull.auto.working ∙ c.deref_mut-2.ensures.len) in
    let after : Lists g.row.K.Denot = record { values = lists.values; relations = lists.relations; constants = lists.constants; proposal = with_items lists.proposal c.pull.new.proposal; working = with_items lists.working c.pull.new.working; spare = lists.spare } in
    let s = gripped_sheet c.args.held.grip in
    let w = shown (box_value c.args.held.workings) in
    let wishes = map f c.args.wishes.now in
    let e = c.in-Ok.ensures in
    let r = room_for f size lists after s (runs.gripped w) w wishes
    c.deref.result.now c.deref-2.result.now c.deref-3.result.now (shown c.deref-4.result.now) c.deref_mut.result.now c.deref_mut-2.result.now
    c.deref.ensures.value c.deref-2.ensures.value c.deref-3.ensures.value (ap shown c.deref-4.ensures) c.deref_mut.ensures.value c.deref_mut-2.ensures.value refl refl refl refl
    (gripped_sheet c.in-Ok.grip) c.in-Ok.denominator e.result in
    let a = length-map c.deref_mut.result.now f in
    let v = ap length (c.as_slice.ensures.value ∙ rp) in
    omega (arith, r, a, v, c.pull.auto.proposal, c.count-n.ensures)

pub returns-in-Ok : goal.returns-in-Ok
returns-in-Ok g c =
    let f = g.K.Kind.coords in
    let size = g.K.Kind.size in
    let lists = c.args.lists.now in
    let rp = with_items_is lists.proposal c.pull.new.proposal (c.pull.auto.proposal ∙ c.deref_mut.ensures.len) in
    let rk = with_items_is lists.working c.pull.new.working (c.pull.auto.working ∙ c.deref_mut-2.ensures.len) in
    let after : Lists g.row.K.Denot = record { values = lists.values; relations = lists.relations; constants = lists.constants; proposal = with_items lists.proposal c.pull.new.proposal; working = with_items lists.working c.pull.new.working; spare = lists.spare } in
    let s = gripped_sheet c.args.held.grip in
    let w = shown (box_value c.args.held.workings) in
    let wishes = map f c.args.wishes.now in
    let e = c.in-Ok.ensures in
    let t = gripped_sheet c.in-Ok.grip in
    let d = c.in-Ok.denominator in
    let fits : SFits w64 d = search rules in
    let read = to_z-of_z w64 d fits in
    let n = c.count-n.result in
    let all : n - 0 ≡ t.count = let x = c.count-n.ensures in omega arith in
    let told = (λ i. map f (take (all i) ((c.as_slice.ensures.value ∙ rp) i))) ∙ sym (take-map f t.count c.pull.new.proposal) ∙ ap (take t.count) e.proposal in
    let found = map f (take (n - 0) c.as_slice.result.now) in
    stepped_in f (runs.pulls size (in_use f lists s (runs.gripped w)) w wishes) after t (runs.proposing w (to_z w64 (of_z w64 d))) (Ok (runs.placing (record { over = to_z w64 (of_z w64 d); nums = found })))
    (λ x m.
    pulled_step f size lists after s (runs.gripped w) w wishes
    c.deref.result.now c.deref-2.result.now c.deref-3.result.now (shown c.deref-4.result.now) c.deref_mut.result.now c.deref_mut-2.result.now
    c.deref.ensures.value c.deref-2.ensures.value c.deref-3.ensures.value (ap shown c.deref-4.ensures) c.deref_mut.ensures.value c.deref_mut-2.ensures.value refl refl refl refl
    (ap (map f) rp ∙ e.proposal) (ap (map f) rk ∙ e.working) t d x e.result
    (subst (λ (us : List Coords). Means f t (runs.proposing w d) (Ok (runs.placing (record { over = d; nums = us }))) x) told
    (subst (λ (k : ℤ). Means f t (runs.proposing w k) (Ok (runs.placing (record { over = k; nums = found }))) x) read m)))
    c.proposed.result c.proposed.ensures

pub returns-in-Err : goal.returns-in-Err
returns-in-Err g c =
    let f = g.K.Kind.coords in
    let size = g.K.Kind.size in
    let lists = c.args.lists.now in
    let rp = with_items_is lists.proposal c.pull.new.proposal (c.pull.auto.proposal ∙ c.deref_mut.ensures.len) in
    let rk = with_items_is lists.working c.pull.new.working (c.pull.auto.working ∙ c.deref_mut-2.ensures.len) in
    let after : Lists g.row.K.Denot = record { values = lists.values; relations = lists.relations; constants = lists.constants; proposal = with_items lists.proposal c.pull.new.proposal; working = with_items lists.working c.pull.new.working; spare = lists.spare } in
    let s = gripped_sheet c.args.held.grip in
    let w = shown (box_value c.args.held.workings) in
    let wishes = map f c.args.wishes.now in
    let e = c.in-Err.ensures in
    unpulled_step f size lists after s (runs.gripped w) w wishes
    c.deref.result.now c.deref-2.result.now c.deref-3.result.now (shown c.deref-4.result.now) c.deref_mut.result.now c.deref_mut-2.result.now
    c.deref.ensures.value c.deref-2.ensures.value c.deref-3.ensures.value (ap shown c.deref-4.ensures) c.deref_mut.ensures.value c.deref_mut-2.ensures.value refl refl refl refl
    (ap (map f) rp ∙ e.proposal) (ap (map f) rk ∙ e.working) (gripped_sheet c.in-Err.field-0.back) c.in-Err.field-0.refusal _ e.result (record { state = λ l. refl; answer = refl })
