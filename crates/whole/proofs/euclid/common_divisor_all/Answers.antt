use Rattle.std.proofs.Common.{◌≡◌, ◌+◌, ◌<◌, ◌≤◌, length, take, get_or, pos, nat_abs, sym, ap, ◌∙◌, arith, w64, SFits, rules}
use Rattle.std.proofs.lemmas.Int.{to_z-of_z}
use Rattle.std.proofs.lemmas.List.Sums.{fold_more}
use Rattle.std.proofs.lemmas.List.{take_all}
use Rattle.whole.specs.Gcd.{gcd, gcd_all}
use Rattle.whole.proofs.Divisors.{gcd_all_one}
use Rattle.whole.proofs.euclid.common_divisor_all.Goals as goal

pub loop-x-preserved : goal.loop-x-preserved
loop-x-preserved c =
    let h : c.loop-x.x-index < length c.args.xs.now = omega arith in
    let e = fold_more (λ g x. gcd g (nat_abs x)) 0 c.args.xs.now c.loop-x.x-index (pos 0) h in
    let f : SFits w64 (get_or c.args.xs.now c.loop-x.x-index (pos 0)) = search rules in
    let t = to_z-of_z w64 _ f in
    cc

pub returns-then-g-eq1 : goal.returns-then-g-eq1
returns-then-g-eq1 c =
    let h : c.loop-x.x-index < length c.args.xs.now = omega arith in
    let e = fold_more (λ g x. gcd g (nat_abs x)) 0 c.args.xs.now c.loop-x.x-index (pos 0) h in
    let f : SFits w64 (get_or c.args.xs.now c.loop-x.x-index (pos 0)) = search rules in
    let t = to_z-of_z w64 _ f in
    let o : c.divisor_with-g.result ≡ 1 = omega arith in
    let all : gcd_all (take (c.loop-x.x-index + 1) c.args.xs.now) ≡ 1 = cc in
    sym (gcd_all_one c.args.xs.now (c.loop-x.x-index + 1) all)

pub returns : goal.returns
returns c =
    let h : length c.args.xs.now ≤ c.loop-x.x-index = omega arith in
    c.loop-x.invariant ∙ ap gcd_all (take_all _ _ h)
