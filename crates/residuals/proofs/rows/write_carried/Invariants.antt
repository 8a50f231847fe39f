use Rattle.std.proofs.Common.{◌≡◌, ℕ, ◌<◌, false, not, ◌&&◌, map}
use Rattle.whole.specs.Lists.{coord}
use Rattle.whole.specs.Tests.{any, nonzero}
use Rattle.rules.specs.Values.{written}
use Rattle.rules.specs.Gripping.{is_needed}
use Rattle.rules.specs.Pulling.{carried, divisors, lowered, lowered_sums}
use Rattle.workings.specs.Shown.{shown}
use Rattle.residuals.proofs.rows.write_carried.Given as goal

abbrev pub invariant-loop-i : goal.invariant-loop-i
invariant-loop-i g l =
    let f = g.K.Kind.coords in
    let size = g.K.Kind.size in
    let m = (shown l.workings).m in
    let t = (shown l.workings).table in
    let gs = carried size m t (map f l.found) in
    let hs = divisors m t gs in
    (l.diagonal ≡ written l.i (lowered m t hs) l.initial.diagonal) × (map f l.sums ≡ written l.i (lowered_sums size m gs hs) (map f l.initial.sums))
    × ((k : ℕ) → k < l.i → (not (is_needed t k) && any size (λ c. nonzero (coord gs k c))) ≡ false)
