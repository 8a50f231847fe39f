use Rattle.std.proofs.Common.{◌≡◌, ◌≤◌, ℕ, false, map, length, take, ltb, Ok, Err, Result, sym, ap, ◌∙◌, subst, arith}
use Rattle.std.proofs.lemmas.Result.{err_from_is_err_and, IfOk-from_err}
use Rattle.records.specs.declared.refusal.Refusal.{Refusal}
use Rattle.rules.specs.Sheets as rules
use Rattle.table.specs.Tables.{grid}
use Rattle.workings.specs.Chosen.{countable}
use Rattle.workings.specs.Facts.{Finished}
use Rattle.workings.specs.Rows.{coefficient_rows}
use Rattle.workings.proofs.Made.{Holding, chosen_of, gripped, holds, shown_is, facts}
use Rattle.workings.proofs.workings.Workings.make.Goals as goal
use Rattle.workings.proofs.workings.Workings.make.Goals.{After-deref}

-- what was chosen is handed over as it is
module _ (c : After-deref) where
  few : length c.args.roles.now ≤ 48
  few = omega arith

  crowd : ltb 12 (length (countable c.args.relations.now c.args.roles.now)) ≡ false
  crowd = (chosen_of _ (coefficient_rows (length c.args.roles.now) c.choose.new.chosen) _ c.in_ok-choose.ensures.rows).0

  rows_are : map (take (length c.args.roles.now)) c.deref.result.now ≡ map (λ b. b.coefs) (countable c.args.relations.now c.args.roles.now)
  rows_are =
      ap (map (take (length c.args.roles.now))) c.deref.ensures.0
      ∙ (chosen_of _ (coefficient_rows (length c.args.roles.now) c.choose.new.chosen) _ c.in_ok-choose.ensures.rows).1

pub returns-in_err-table : goal.returns-in_err-table
returns-in_err-table c =
    let q = err_from_is_err_and c.from_residual-in_err-table.result c.from_residual-in_err-table.ensures.1 in
    let a = (goal.at.returns-in_err-table c).After-deref in
    record {
      value = rw (q.1, q.2) (sym (gripped c.args.roles.now c.args.relations.now (few a) (sym c.if-some_out_of_range.ensures) (sym c.if-bad_roles.ensures) (crowd a) c.deref.result.now (rows_are a) c.shares_of-shares.result c.shares_of-shares.ensures (Err c.in_err-table.field-0.0) c.in_err-table.ensures));
      facts = IfOk-from_err c.from_residual-in_err-table.result _ c.from_residual-in_err-table.ensures.0;
    }

pub invariant_of-result : goal.invariant_of-result
invariant_of-result c =
    let a = (goal.at.invariant_of-result c).After-deref in
    let h = subst (λ (m : ℕ). Holding (length c.args.roles.now) m c.in_ok-table.table c.kept.result c.shares_of-shares.result) (ap length c.deref.ensures.0 ∙ sym c.len.ensures.value)
    (holds c.args.roles.now c.args.relations.now (few a) (sym c.if-some_out_of_range.ensures) (sym c.if-bad_roles.ensures) (crowd a) c.deref.result.now (rows_are a) c.shares_of-shares.result c.shares_of-shares.ensures
    c.in_ok-table.table c.in_ok-table.ensures c.kept.result c.kept.ensures) in
    record { few = h.few; parameters = few a; within = h.within; upright = h.upright; low = h.low; high = h.high }

pub returns : goal.returns
returns c =
    let n = length c.args.roles.now in
    let a = (goal.at.returns c).After-deref in
    let e = c.len.ensures.value ∙ sym (ap length c.deref.ensures.0) in
    let whole : ℕ → Result rules.Workings Refusal = λ m. Ok (record { count = n; m = m; table = grid m c.in_ok-table.table; roles = take n c.kept.result; shares = take n c.shares_of-shares.result }) in
    record {
      value = ap whole e ∙ shown_is c.args.roles.now c.args.relations.now (few a) (sym c.if-some_out_of_range.ensures) (sym c.if-bad_roles.ensures) (crowd a) c.deref.result.now (rows_are a) c.shares_of-shares.result c.shares_of-shares.ensures
          c.in_ok-table.table c.in_ok-table.ensures c.kept.result c.kept.ensures;
      facts = subst (λ (m : ℕ). Finished n c.args.roles.now (countable c.args.relations.now c.args.roles.now) (grid m c.in_ok-table.table)) (sym e)
          (facts c.args.roles.now c.args.relations.now (few a) (sym c.if-some_out_of_range.ensures) (sym c.if-bad_roles.ensures) (crowd a) c.deref.result.now (rows_are a) c.shares_of-shares.result c.shares_of-shares.ensures
          c.in_ok-table.table c.in_ok-table.ensures c.kept.result c.kept.ensures);
    }
