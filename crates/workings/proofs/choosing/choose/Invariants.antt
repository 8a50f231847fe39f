use Rattle.std.proofs.Common.{◌≡◌, ◌≤◌, map, length, take}
use Rattle.arrayvec.specs.ArrayVec.{array_vec_len}
use Rattle.rules.specs.Gripping.{counted}
use Rattle.workings.specs.Chosen.{bare}
use Rattle.workings.proofs.choosing.choose.Given as goal

abbrev pub invariant-loop-relation : goal.invariant-loop-relation
invariant-loop-relation l =
    let n = length l.roles in
    (map (take n) l.chosen.items ≡ map (λ b. b.coefs) (counted n l.roles (bare n (take l.relation-index l.relations)))) × (array_vec_len l.chosen ≤ 12)
