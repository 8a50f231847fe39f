use Rattle.std.proofs.Common.{◌≡◌, ◌++◌, map, decimal, take, vec_items}
use Rattle.words.specs.Words.{spaced}
use Rattle.answers.proofs.rows.put_counts.Given as goal

abbrev pub invariant-loop-number : goal.invariant-loop-number
invariant-loop-number l = vec_items l.out ≡ vec_items l.initial.out ++ spaced (map decimal (take l.number-index l.numbers))
