use Rattle.std.proofs.Common.{w64}
use Rattle.std.proofs.lemmas.Int.{to_z-of_z}
use Rattle.whole.proofs.Divisors.{gcd_comm}
use Rattle.whole.proofs.euclid.divisor_with.Goals as goal

pub returns : goal.returns
returns c =
    let t = to_z-of_z w64 c.args.x c.ranges.x in
    let s = gcd_comm c.unsigned_abs.result c.args.g in
    cc
