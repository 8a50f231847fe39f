use Rattle.std.proofs.Common.{map, ℤ, Ok, Err, box_value, refl, ap, ◌∙◌, subst, w64, SFits, to_z, of_z, rules}
use Rattle.std.specs.Vec.{with_items}
use Rattle.std.proofs.lemmas.List.{with_items_is}
use Rattle.std.proofs.lemmas.Int.{to_z-of_z}
use Rattle.rules.specs.Runs as runs
use Rattle.sheets.specs.Shown.{numbers}
use Rattle.workings.specs.Shown.{shown}
use Rattle.grips.specs.Shown.{gripped_sheet}
use Rattle.steps.specs.declared.lists.Lists.{Lists}
use Rattle.calls.specs.declared.answer.Given.TheVariants.{Nothing}
use Rattle.steps.specs.declared.state.State.TheVariants.{Free, Proposed}
use Rattle.steps.specs.Steps.{in_use, Stepped}
use Rattle.steps.proofs.Keeps.{kept_step, unkept_step}
use Rattle.steps.proofs.gripped.keep_step.Goals as goal

pub returns-in-Ok : goal.returns-in-Ok
returns-in-Ok g c =
    let f = g.K.Kind.coords in
    let size = g.K.Kind.size in
    let lists = c.args.lists.now in
    let rv = with_items_is lists.values c.keep.new.values (c.keep.auto.values ∙ c.deref_mut.ensures.len) in
    let after : Lists g.row.K.Denot = record { values = with_items lists.values c.keep.new.values; relations = lists.relations; constants = lists.constants; proposal = lists.proposal; working = lists.working; spare = lists.spare } in
    let s = gripped_sheet c.args.offer.held.grip in
    let d = c.args.offer.denominator in
    let phase = runs.proposing (shown (box_value c.args.offer.held.workings)) d in
    let fits : SFits w64 d = search rules in
    let read = to_z-of_z w64 d fits in
    let e = c.in-Ok.ensures in
    subst (λ (x : ℤ). Stepped f (runs.keeps size (in_use f lists s phase) x) after (Free c.in-Ok.sheet, Ok Nothing)) read
    (kept_step f size lists after s phase (to_z w64 (of_z w64 d)) c.deref_mut.result.now c.deref.result.now c.deref-2.result.now c.deref-3.result.now
    c.deref_mut.ensures.value c.deref.ensures.value c.deref-2.ensures.value c.deref-3.ensures.value refl refl refl refl refl
    (ap (map f) rv ∙ e.values) (numbers c.in-Ok.sheet) (Free c.in-Ok.sheet, Ok Nothing) e.result (record { state = λ l. refl; answer = refl }))

pub returns-in-Err : goal.returns-in-Err
returns-in-Err g c =
    let f = g.K.Kind.coords in
    let size = g.K.Kind.size in
    let lists = c.args.lists.now in
    let rv = with_items_is lists.values c.keep.new.values (c.keep.auto.values ∙ c.deref_mut.ensures.len) in
    let after : Lists g.row.K.Denot = record { values = with_items lists.values c.keep.new.values; relations = lists.relations; constants = lists.constants; proposal = lists.proposal; working = lists.working; spare = lists.spare } in
    let s = gripped_sheet c.args.offer.held.grip in
    let d = c.args.offer.denominator in
    let phase = runs.proposing (shown (box_value c.args.offer.held.workings)) d in
    let fits : SFits w64 d = search rules in
    let read = to_z-of_z w64 d fits in
    let e = c.in-Err.ensures in
    let t = gripped_sheet c.in-Err.field-0.back in
    let w = c.args.offer.held.workings in
    subst (λ (x : ℤ). Stepped f (runs.keeps size (in_use f lists s phase) x) after (Proposed (record { held = record { grip = c.in-Err.field-0.back; workings = w }; denominator = to_z w64 (of_z w64 d) }), Err c.in-Err.field-0.refusal)) read
    (unkept_step f size lists after s phase (to_z w64 (of_z w64 d)) c.deref_mut.result.now c.deref.result.now c.deref-2.result.now c.deref-3.result.now
    c.deref_mut.ensures.value c.deref.ensures.value c.deref-2.ensures.value c.deref-3.ensures.value refl refl refl refl refl
    (ap (map f) rv ∙ e.values) t c.in-Err.field-0.refusal (Proposed (record { held = record { grip = c.in-Err.field-0.back; workings = w }; denominator = to_z w64 (of_z w64 d) }), Err c.in-Err.field-0.refusal) e.result
    (record { state = λ l. ap (λ (x : ℤ). in_use f l t (runs.proposing (shown (box_value w)) x)) read; answer = refl }))
