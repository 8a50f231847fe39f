use Rattle.std.proofs.Common.{◌≡◌, ◌≤◌}
use Rattle.fractions.specs.Multiple.{multiple}
use Rattle.fractions.proofs.multiple.Multiple.of.Given as goal

abbrev pub invariant-loop-p : goal.invariant-loop-p
invariant-loop-p l = (l.all.0 ≡ multiple l.p-index l.numbers) × (1 ≤ l.all.0) × (l.all.0 ≤ 2147483647)
