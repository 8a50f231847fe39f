use Rattle.std.proofs.Common.{◌≡◌, ◌≤◌, ◌↔◌, List, map, length, Result, sym, ap, ◌∙◌, subst, arith}
use Rattle.records.specs.declared.refusal.Refusal.{Refusal}
use Rattle.records.specs.Outcomes.{image}
use Rattle.rules.specs.Sheets as rules
use Rattle.rules.specs.Calls.{marks_after}
use Rattle.sheets.specs.Shown.{numbers}
use Rattle.sheets.proofs.Fit.{long}
use Rattle.workings.specs.Shown.{shown}
use Rattle.records.specs.declared.relation.Mark.TheVariants.{Spare}
use Rattle.records.specs.declared.relation.Relation.{Relation}
use Rattle.law.proofs.Facts.{spare-exactly}
use Rattle.grips.specs.Shown.{handing_back, Implied}
use Rattle.grips.proofs.Answering.{accepted}
use Rattle.grips.proofs.Taken.{marks, few, told-spares}
use Rattle.grips.proofs.taking.Grip+Unproposed.take.Goals as goal

pub write_spares-spares-requires : goal.write_spares-spares-requires
write_spares-spares-requires g c =
    let f = g.K.Kind.coords in
    let size = g.K.Kind.size in
    let s = numbers c.args.sheet in
    let vs = map f c.args.values.now in
    let rs = c.args.relations.now in
    let qs = map f c.args.constants.now in
    let w = shown c.in-Ok.workings in
    let told = accepted size s vs rs qs c.args.roles.now c.args.spare.now w c.in-Ok.ensures in
    let t = long f size s c.args.values.now rs c.args.constants.now told.fine in
    let rows : c.args.sheet.bound ≤ length rs = omega (arith, t.relations_long, c.args.sheet.room) in
    few size s vs rs qs c.args.roles.now c.args.spare.now w told rows c.bound-bound.result c.bound-bound.ensures c.mark_all.new.relations c.mark_all.auto.relations c.mark_all.ensures

pub returns : goal.returns
returns g c =
    let f = g.K.Kind.coords in
    let size = g.K.Kind.size in
    let s = numbers c.args.sheet in
    let vs = map f c.args.values.now in
    let rs = c.args.relations.now in
    let qs = map f c.args.constants.now in
    let w = shown c.in-Ok.workings in
    let e = c.in-Ok.ensures in
    let told = accepted size s vs rs qs c.args.roles.now c.args.spare.now w e in
    let t = long f size s c.args.values.now rs c.args.constants.now told.fine in
    let rows : c.args.sheet.bound ≤ length rs = omega (arith, t.relations_long, c.args.sheet.room) in
    let marked-so = marks size s vs rs qs c.args.roles.now c.args.spare.now w told rows c.bound-bound.result c.bound-bound.ensures c.mark_all.new.relations c.mark_all.auto.relations c.mark_all.ensures in
    record {
      implied = λ i l. subst (λ (after : List Relation). ((rules.relation_at after i).mark ≡ Spare) ↔ Implied s rs qs c.args.roles.now i) (sym marked-so) (spare-exactly size s vs rs qs c.args.roles.now c.args.spare.now w (sym e) i l);
      result = ap (λ (r : Result rules.Workings Refusal). handing_back s (image (λ (v : rules.Workings). (s, v)) r)) e;
      marks = marked-so ∙ ap (λ (r : Result rules.Workings Refusal). marks_after r s rs qs) e;
      spares = told-spares size s vs rs qs c.args.roles.now c.args.spare.now w told rows c.bound-bound.result c.bound-bound.ensures c.mark_all.new.relations c.mark_all.auto.relations c.mark_all.ensures c.write_spares-spares.result c.write_spares-spares.new.spare c.write_spares-spares.ensures.count c.write_spares-spares.ensures.list;
    }
