use Rattle.std.proofs.Common.{◌≡◌, ◌++◌, map, take, drop}
use lib.Signed.{quot_z}
use Rattle.table.proofs.row.divide.Given as goal

abbrev pub invariant-loop-x : goal.invariant-loop-x
invariant-loop-x l = l.x-items ≡ map (λ x. quot_z x l.g) (take l.x-index l.initial.x-items) ++ drop l.x-index l.initial.x-items
