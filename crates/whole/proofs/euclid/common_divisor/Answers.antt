use Rattle.std.proofs.Common.{◌≡◌, ◌<◌, sym, ap, ◌∙◌, arith}
use Rattle.whole.specs.Gcd.{gcd}
use Rattle.whole.proofs.Divisors.{gcd-step}
use Rattle.whole.proofs.euclid.common_divisor.Goals as goal

pub loop-y-preserved : goal.loop-y-preserved
loop-y-preserved c =
    let h : 0 < c.loop-y.y = omega arith in
    sym (gcd-step c.loop-y.x c.loop-y.y h) ∙ c.loop-y.invariant

pub returns : goal.returns
returns c =
    let z : c.loop-y.y ≡ 0 = omega arith in
    ap (gcd c.loop-y.x) (sym z) ∙ c.loop-y.invariant
