use Rattle.std.proofs.Common.{◌≡◌, ◌++◌, map, take, vec_items}
use Rattle.words.specs.Words.{spaced}
use Rattle.answers.specs.Texts.{value_text}
use Rattle.answers.proofs.rows.put_values.Given as goal

abbrev pub invariant-loop-value : goal.invariant-loop-value
invariant-loop-value g l = vec_items l.out ≡ vec_items l.initial.out ++ spaced (map (λ v. value_text (g.K.Kind.coords v)) (take l.value-index l.values))
