use Rattle.std.proofs.Common.{◌≡◌, length, take}
use Rattle.rules.specs.Gripping.{shares}
use Rattle.workings.proofs.sharing.shares_of.Given as goal

abbrev pub invariant-loop-s : goal.invariant-loop-s
invariant-loop-s l = (take l.s l.all ≡ shares l.s l.roles) × (length l.all ≡ 48)
