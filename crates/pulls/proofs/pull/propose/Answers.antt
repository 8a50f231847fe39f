use Rattle.std.proofs.Common.{ℕ, map, ℤ, sym, ◌∙◌, ap₂, arith, w64, SFits, to_z, of_z, rules}
use Rattle.std.proofs.lemmas.Int.{to_z-of_z}
use Rattle.std.proofs.lemmas.Bool.{or_parts}
use Rattle.rules.specs.Sheets.{unfit_values}
use Rattle.sheets.specs.Shown.{numbers}
use Rattle.workings.specs.Shown.{shown}
use Rattle.std.proofs.lemmas.List.{length-take-le}
use Rattle.pulls.proofs.Calling.{unfit_rows, same_count, fit, room, proposal_long, wishes_long, rows_long, rows_fine, pulled}
use Rattle.pulls.proofs.pull.propose.Goals as goal

pub returns-then-counted-m : goal.returns-then-counted-m
returns-then-counted-m g c =
    let f = g.K.Kind.coords in
    unfit_rows f g.K.Kind.size (numbers c.args.sheet.now) (map f c.args.values.now) c.args.relations.now (map f c.args.constants.now) (shown c.args.workings.now) c.args.wishes.now c.args.proposal.now c.args.working.now (sym c.if-unfit_lists.ensures)
    c.roles.result.now c.bound.result c.counted_relations-counted.result.m c.roles.ensures.value c.roles.ensures.long c.bound.ensures c.args.sheet.now.room c.counted_relations-counted.ensures.m
    (λ e. c.if-counted-m.true (e ∙ sym c.m-m.ensures.value))

pub slice_bounds-pull-end-5 : goal.slice_bounds-pull-end-5
slice_bounds-pull-end-5 g c =
    let f = g.K.Kind.coords in
    let enough = room f g.K.Kind.size (numbers c.args.sheet.now) (map f c.args.values.now) c.args.relations.now (map f c.args.constants.now) (shown c.args.workings.now) c.args.wishes.now c.args.proposal.now c.args.working.now (sym c.if-unfit_lists.ensures) in
    search rules

pub pull-requires : goal.pull-requires
pull-requires g c =
    let f = g.K.Kind.coords in
    let size = g.K.Kind.size in
    let s = numbers c.args.sheet.now in
    let w = shown c.args.workings.now in
    let vs = map f c.args.values.now in
    let rs = c.args.relations.now in
    let qs = map f c.args.constants.now in
    let wishes = c.args.wishes.now in
    let proposal = c.args.proposal.now in
    let working = c.args.working.now in
    let fine = sym c.if-unfit_lists.ensures in
    let count = same_count f size s vs rs qs w wishes proposal working fine in
    let fits : SFits w64 c.args.sheet.now.denominator = search rules in
    let counted = c.counted_relations-counted.result in
    record {
      wished = omega (arith, count, wishes_long f size s vs rs qs w wishes proposal working fine);
      fit = ap₂ (λ (n : ℕ) (d : ℤ). unfit_values size n d vs) count (to_z-of_z w64 c.args.sheet.now.denominator fits) ∙ (or_parts (unfit_values size s.count s.d vs) _ (fit f size s vs rs qs w wishes proposal working fine)).0;
      fine = rows_fine f size s vs rs qs w wishes proposal working fine c.roles.result.now c.bound.result counted.m c.roles.ensures.value c.roles.ensures.long c.bound.ensures c.args.sheet.now.room c.counted_relations-counted.ensures.m
          c.m-m.result counted.rows c.if-counted-m.false c.m-m.ensures.value c.m-m.ensures.most c.counted_relations-counted.ensures.rows;
      rows = rows_long f size s vs rs qs w wishes proposal working fine c.roles.result.now c.bound.result counted.m c.roles.ensures.value c.roles.ensures.long c.bound.ensures c.args.sheet.now.room c.counted_relations-counted.ensures.m
          c.m-m.result counted.rows c.if-counted-m.false c.m-m.ensures.value c.m-m.ensures.most c.counted_relations-counted.ensures.rows;
      proposed = length-take-le c.count-n.result proposal (omega (arith, c.count-n.ensures.value, count, proposal_long f size s vs rs qs w wishes proposal working fine)) ∙ c.count-n.ensures.value;
      working = length-take-le 24 working (room f size s vs rs qs w wishes proposal working fine);
    }

pub returns : goal.returns
returns g c =
    let f = g.K.Kind.coords in
    let size = g.K.Kind.size in
    let s = numbers c.args.sheet.now in
    let w = shown c.args.workings.now in
    let vs = map f c.args.values.now in
    let rs = c.args.relations.now in
    let qs = map f c.args.constants.now in
    let wishes = c.args.wishes.now in
    let proposal = c.args.proposal.now in
    let working = c.args.working.now in
    let fine = sym c.if-unfit_lists.ensures in
    let count = same_count f size s vs rs qs w wishes proposal working fine in
    let fits : SFits w64 c.args.sheet.now.denominator = search rules in
    let counted = c.counted_relations-counted.result in
    let n = c.count-n.result in
    let is_n = c.count-n.ensures.value ∙ count in
    pulled f size s vs rs qs w wishes proposal working fine c.roles.result.now c.bound.result counted.m c.roles.ensures.value c.roles.ensures.long c.bound.ensures c.args.sheet.now.room c.counted_relations-counted.ensures.m
    c.m-m.result counted.rows c.if-counted-m.false c.m-m.ensures.value c.m-m.ensures.most c.counted_relations-counted.ensures.rows
    (to_z w64 (of_z w64 c.args.sheet.now.denominator)) (to_z-of_z w64 c.args.sheet.now.denominator fits) n is_n c.pull.result c.pull.new.proposal c.pull.new.working
    (c.pull.auto.proposal ∙ length-take-le n proposal (omega (arith, c.count-n.ensures.value, count, proposal_long f size s vs rs qs w wishes proposal working fine)) ∙ c.count-n.ensures.value ∙ count)
    (c.pull.auto.working ∙ length-take-le 24 working (room f size s vs rs qs w wishes proposal working fine)) c.pull.ensures
