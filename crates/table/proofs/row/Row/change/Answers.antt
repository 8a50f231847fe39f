use Rattle.std.proofs.Common.{◌≡◌, ◌≤◌, length, map, ℤ, pos, ◌<ℤ◌, sym, ap, ◌∙◌, subst, arith, w64, rules}
use lib.Signed.{quot_z}
use borrow.Author.Differences.{ints}
use Rattle.std.proofs.lemmas.Int.{to_z_pos}
use Rattle.whole.proofs.Sizes.{fits}
use Rattle.table.proofs.Sizes.{room}
use Rattle.table.proofs.Changes.{divided_is, left_is, divisor-size}
use Rattle.table.proofs.row.Row.change.Goals as goal
use Rattle.table.proofs.row.Row.change.Goals.{After-common_divisor_all-g}

-- the divisor is that of the row's front
module _ (c : After-common_divisor_all-g) where
  long : c.args.w ≤ length c.args.self.now.cells
  long = let ls : length c.args.self.now.cells ≡ 24 = search rules in omega arith

  size : c.common_divisor_all-g.result ≤ room
  size =
      divisor-size c.args.w c.args.factors.p c.args.factors.q c.args.self.now.cells c.args.pivot.now.cells c.combine.new.cells c.common_divisor_all-g.result long c.combine.ensures c.common_divisor_all-g.ensures
      c.args.factors.row c.args.factors.pivot c.requires.rows.0 c.requires.rows.1

pub overflow_cast-g : goal.overflow_cast-g
overflow_cast-g c = let s = size (goal.at.overflow_cast-g c).After-common_divisor_all-g in fits (pos c.common_divisor_all-g.result) (omega arith)

pub divide-requires : goal.divide-requires
divide-requires c =
    let s = size (goal.at.divide-requires c).After-common_divisor_all-g in
    let z = to_z_pos w64 c.common_divisor_all-g.result (omega arith) in
    subst (λ (x : ℤ). pos 1 <ℤ x) (sym z) (omega (arith, ints))

pub returns-then-g-gt1 : goal.returns-then-g-gt1
returns-then-g-gt1 c =
    let a = (goal.at.returns-then-g-gt1 c).After-common_divisor_all-g in
    let s = size a in
    let z = to_z_pos w64 c.common_divisor_all-g.result (omega arith) in
    divided_is c.args.w c.args.factors.p c.args.factors.q c.args.self.now.cells c.args.pivot.now.cells c.combine.new.cells c.common_divisor_all-g.result (long a) c.combine.ensures c.common_divisor_all-g.ensures c.divide.new.cells
    (c.divide.ensures ∙ ap (λ (g : ℤ). map (λ x. quot_z x g) c.combine.new.cells) z)

pub returns-else-g-gt1 : goal.returns-else-g-gt1
returns-else-g-gt1 c =
    let a = (goal.at.returns-else-g-gt1 c).After-common_divisor_all-g in
    left_is c.args.w c.args.factors.p c.args.factors.q c.args.self.now.cells c.args.pivot.now.cells c.combine.new.cells c.common_divisor_all-g.result (long a) c.combine.ensures c.common_divisor_all-g.ensures c.if-g-gt1.false
