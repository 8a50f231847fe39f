use Rattle.std.proofs.Common.{ℕ, Bool, cond, List, ◌++◌, take, drop, zero-add, map, ℤ, Ok, Err, Result, sym, ap, ◌∙◌, ap₂, w64}
use Rattle.std.proofs.lemmas.Int.{to_z-of_z}
use Rattle.std.proofs.lemmas.Bool.{or_from}
use Rattle.records.specs.declared.refusal.Refusal.{Refusal}
use Rattle.records.specs.declared.refusal.Refusal.TheVariants.{Unfit}
use Rattle.rules.specs.Values.{Coords, written}
use Rattle.rules.specs.Sheets as rules
use Rattle.rules.specs.Sheets.{unfit_values, unfit}
use Rattle.grips.specs.Shown.{handing_back}
use Rattle.sheets.specs.Shown.{numbers}
use Rattle.sheets.proofs.Fit.{map-paste}
use Rattle.grips.proofs.ending.Grip+Proposed.keep.Goals as goal

pub returns : goal.returns
returns g c =
    let f = g.K.Kind.coords in
    let size = g.K.Kind.size in
    let s = numbers c.args.self.sheet in
    let vs = map f c.args.values.now in
    let rs = c.args.relations.now in
    let qs = map f c.args.constants.now in
    let ps = map f c.args.proposal.now in
    let e = c.args.denominator in
    let read = to_z-of_z w64 e c.ranges.denominator in
    let n = c.count-n.ensures in
    let fine = sym c.if-unfit.ensures in
    let good = ap₂ (λ (k : ℕ) (d : ℤ). unfit_values size k d ps) (sym n) (sym read) ∙ sym c.if-unfit_values.ensures in
    let passed = or_from (unfit size s vs rs qs) (unfit_values size c.args.self.sheet.count e ps) fine good in
    let kept : Bool → Result rules.Sheet Refusal × List Coords = λ b. cond b (Err Unfit, vs) (Ok (record { count = c.args.self.sheet.count; bound = c.args.self.sheet.bound; d = e }), written c.args.self.sheet.count ps vs) in
    record {
      result = ap (λ (d : ℤ). Ok (record { count = c.args.self.sheet.count; bound = c.args.self.sheet.bound; d = d })) read ∙ sym (ap (λ (b : Bool). handing_back s (kept b).0) passed);
      values = ap (λ (xs : List g.row.K.Denot). map f (xs ++ drop c.count-n.result c.args.values.now)) c.copy_from_slice.ensures.after ∙ ap (λ (k : ℕ). map f (take c.count-n.result c.args.proposal.now ++ drop k c.args.values.now)) (sym (zero-add c.count-n.result)) ∙ map-paste f c.args.values.now 0 c.args.proposal.now c.count-n.result ∙ ap (λ (k : ℕ). written k ps vs) n ∙ sym (ap (λ (b : Bool). (kept b).1) passed);
    }
