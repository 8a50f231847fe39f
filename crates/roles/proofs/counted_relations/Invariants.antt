use Rattle.std.proofs.Common.{◌≡◌, ◌≤◌, min, length, replicate}
use Rattle.rules.specs.Values.{written}
use Rattle.roles.specs.Places.{places}
use Rattle.roles.proofs.counted_relations.Given as goal

abbrev pub invariant-loop-i : goal.invariant-loop-i
invariant-loop-i l = (l.m ≡ length (places l.roles l.relations l.i)) × (l.rows ≡ written (min l.m 12) (places l.roles l.relations l.i) (replicate 12 0)) × (l.m ≤ l.i)
