use Rattle.std.proofs.Common.{◌≡◌, ℕ, ◌+◌, ◌*◌, ◌≤◌, get_or, pos, ◌+ℤ◌, ◌*ℤ◌, nat_abs, sym, ◌∙◌, subst, arith, w64, SFits, to_z, of_z, rules}
use Rattle.std.proofs.lemmas.Int.{to_z-of_z}
use Rattle.whole.specs.Lists.{at}
use Rattle.whole.specs.Sums.{sum_below}
use Rattle.whole.proofs.Sizes.{nat_abs-+, fits}
use Rattle.whole.proofs.Sums.{sum_more}
use Rattle.table.proofs.Places.{sum-none}
use Rattle.table.proofs.start.weighted_sum.Goals as goal

module _ (c : goal.After-weighted-sum) where
  size : nat_abs (c.loop-s.sum +ℤ c.weighted-sum.result) ≤ 12000000 * (c.loop-s.s + 1)
  size =
      let z : nat_abs c.weighted-sum.result ≤ 12000000 = c.weighted-sum.ensures.size in
      let k = subst (λ n. nat_abs n ≤ 12000000 * c.loop-s.s) c.loop-s.sum-is c.loop-s.invariant.1 in
      let a = nat_abs-+ c.loop-s.sum c.weighted-sum.result in
      omega arith

pub loop-s-init : goal.loop-s-init
loop-s-init c = (sym (sum-none (λ (s : ℕ). at c.args.shares.now s *ℤ (at c.args.xs.now s *ℤ at c.args.ys.now s))), omega arith)

pub loop-s-preserved : goal.loop-s-preserved
loop-s-preserved c =
    let fr : SFits w64 c.weighted-sum.result = search rules in
    let fv : SFits w64 (get_or c.args.shares.now c.loop-s.s (pos 0)) = search rules in
    let fx : SFits w64 (get_or c.args.xs.now c.loop-s.s (pos 0)) = search rules in
    let fy : SFits w64 (get_or c.args.ys.now c.loop-s.s (pos 0)) = search rules in
    let b = c.loop-s.sum-is in
    let t = size c in
    let n = c.requires.few in
    let ft : SFits w64 (c.loop-s.sum +ℤ c.weighted-sum.result) = fits _ (omega arith) in
    let e0 : c.weighted-sum.result ≡ to_z w64 (of_z w64 (get_or c.args.shares.now c.loop-s.s (pos 0))) *ℤ (to_z w64 (of_z w64 (get_or c.args.xs.now c.loop-s.s (pos 0))) *ℤ to_z w64 (of_z w64 (get_or c.args.ys.now c.loop-s.s (pos 0)))) = c.weighted-sum.ensures.value in
    let e1 = simp to_z-of_z at e0 in
    let m = sum_more c.loop-s.s (λ (s : ℕ). at c.args.shares.now s *ℤ (at c.args.xs.now s *ℤ at c.args.ys.now s)) in
    let i : c.loop-s.sum ≡ sum_below c.loop-s.s (λ (s : ℕ). at c.args.shares.now s *ℤ (at c.args.xs.now s *ℤ at c.args.ys.now s)) = sym b ∙ c.loop-s.invariant.0 in
    (simp (to_z-of_z, b) (cc), simp (to_z-of_z, b) t)
