use Rattle.std.proofs.Common.{◌≡◌, ◌++◌, take, vec_items}
use Rattle.answers.specs.Texts.{value_text}
use Rattle.answers.proofs.value.put_value.Given as goal

abbrev pub invariant-loop-k : goal.invariant-loop-k
invariant-loop-k g l = vec_items l.out ≡ vec_items l.initial.out ++ value_text (take l.k (g.K.Kind.coords l.v))
