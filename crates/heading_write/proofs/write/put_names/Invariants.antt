use Rattle.std.proofs.Common.{◌≡◌, ◌++◌, take, vec_items}
use Rattle.words.specs.Words.{spaced}
use Rattle.heading.specs.Names.{texts}
use Rattle.heading_write.proofs.write.put_names.Given as goal

abbrev pub invariant-loop-name : goal.invariant-loop-name
invariant-loop-name l = vec_items l.out ≡ vec_items l.initial.out ++ spaced (take l.name-index (texts l.names))
