use Rattle.std.proofs.Common.{◌≡◌, List, map, length, vec_len, Result, sym, ap, ◌∙◌, rules}
use Rattle.std.specs.Vec.{with_items}
use Rattle.std.proofs.lemmas.List.{with_items_is}
use Rattle.records.specs.declared.refusal.Refusal.{Refusal}
use Rattle.rules.specs.Calls.{opening}
use Rattle.rules.specs.Runs as runs
use Rattle.rules.specs.Sheets as rules
use Rattle.rules.specs.Values.{Coords}
use Rattle.sheets.specs.Shown.{numbers}
use Rattle.steps.proofs.Steps.{holding}
use Rattle.desk.proofs.desk.Desk.open.Goals as goal

pub returns : goal.returns
returns g c =
    let f = g.K.Kind.coords in
    let lists = c.in_ok-lists.lists in
    let F = c.in_ok-lists.ensures in
    let s = numbers c.in_ok-sheet.sheet in
    let lv : length c.open.new.values ≡ vec_len lists.values = search rules in
    let rv = with_items_is lists.values c.open.new.values lv in
    let e = c.in_ok-sheet.ensures ∙ ap (λ (vs : List Coords). opening g.K.Kind.size c.args.count vs) (ap (map f) c.deref_mut.ensures.value ∙ F.values) in (
      s,
      sym (ap (λ (o : Result rules.Sheet Refusal × List Coords). o.0) e),
      holding f (record { values = with_items lists.values c.open.new.values; relations = lists.relations; constants = lists.constants; proposal = lists.proposal; working = lists.working; spare = lists.spare })
          s runs.free (ap (map f) rv ∙ ap (λ (o : Result rules.Sheet Refusal × List Coords). o.1) e) F.relations F.constants F.proposal F.working F.spare,
    )
