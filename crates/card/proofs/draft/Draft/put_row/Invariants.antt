use Rattle.std.proofs.Common.{◌≡◌, vec_items}
use Rattle.card.proofs.Putting.{Appended}
use Rattle.card.proofs.draft.Draft.put_row.Given as goal

abbrev pub invariant-loop-value : goal.invariant-loop-value
invariant-loop-value g l = record {
  stays : l.self.count ≡ l.initial.self.count;
  put : Appended g.V.Written.form l.values l.value-index (vec_items l.initial.self.text) (vec_items l.self.text);
}
