use Rattle.std.proofs.Common.{◌≡◌, map, take, vec_items, sym, ap, ◌∙◌, w64, SFits, rules}
use Rattle.std.proofs.lemmas.List.{take-map}
use Rattle.std.proofs.lemmas.Int.{to_z-of_z}
use Rattle.rules.specs.Sheets as rules
use Rattle.sheets.specs.Shown.{numbers}
use Rattle.steps.specs.declared.state.State.{State}
use Rattle.steps.specs.Steps.{use_in}
use Rattle.steps.proofs.Steps.{values_in}
use Rattle.desk.proofs.desk.Desk.close.Goals.{in-Free, in-Gripped, in-Proposed}
use Rattle.desk.proofs.desk.Desk.close.Goals as goal

pub returns : goal.returns
returns g c =
    let f = g.K.Kind.coords in
    let lists = c.args.self.lists in
    let held : State → rules.Sheet = λ s. (use_in f lists s).sheet in
    let same : numbers c.match-state.sheet ≡ held c.args.self.state = elim c.match-state.branch [
      | in-Free w ↦ ap numbers w.sheet-is ∙ sym (ap held w.in-Free.is)
      | in-Gripped w ↦ ap numbers w.sheet-is ∙ w.release-sheet.ensures ∙ sym (ap held w.in-Gripped.is)
      | in-Proposed w ↦ ap numbers w.sheet-is ∙ w.release-sheet-in-Proposed.ensures ∙ sym (ap held w.in-Proposed.is)
    ] in
    let fits : SFits w64 c.match-state.sheet.denominator = search rules in
    record {
      values = ap (map f) c.truncate.ensures.items ∙ sym (take-map f c.count.result (vec_items lists.values))
          ∙ (λ i. take ((c.count.ensures ∙ ap (λ (s : rules.Sheet). s.count) same) i) (sym (values_in f lists c.args.self.state) i));
      denominator = to_z-of_z w64 c.match-state.sheet.denominator fits ∙ ap (λ (s : rules.Sheet). s.d) same;
    }
