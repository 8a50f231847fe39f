use Rattle.std.proofs.Common.{◌<◌, map, length, sym, ◌∙◌, arith, rules}
use Rattle.std.proofs.lemmas.List.{map-set}
use Rattle.sheets.specs.Shown.{numbers}
use Rattle.rules.proofs.Accepted.{bindable}
use Rattle.sheets.proofs.Fit.{long}
use Rattle.sheets.proofs.Writing.{recorded_front}
use Rattle.sheets.proofs.record.Sheet.bind.Given as given
use Rattle.sheets.proofs.record.Sheet.bind.Goals as goal

-- there is room for one relation more
room : (g : given.Over) (c : goal.After-record_of g) → c.args.self.now.bound < length c.args.constants.now
room g c =
    let f = g.K.Kind.coords in
    let p = bindable g.K.Kind.size (numbers c.args.self.now) (map f c.args.values.now) c.args.relations.now (map f c.args.constants.now) c.args.coefficients.now (f c.args.q) _ (sym c.in_ok-bind_answer.ensures) in
    let t = long f g.K.Kind.size (numbers c.args.self.now) c.args.values.now c.args.relations.now c.args.constants.now p.fits in
    omega (arith, p.few, t.constants_long)

pub bounds-constants-b : goal.bounds-constants-b
bounds-constants-b g c = room g c

pub offset_bounds-constants-b : goal.offset_bounds-constants-b
offset_bounds-constants-b g c = let h : c.args.self.now.bound < length c.args.constants.now = room g c in search rules

pub returns : goal.returns
returns g c =
    let f = g.K.Kind.coords in
    let e = c.in_ok-bind_answer.ensures in
    let m = map-set f c.args.constants.now c.args.self.now.bound c.args.q in
    let p = bindable g.K.Kind.size (numbers c.args.self.now) (map f c.args.values.now) c.args.relations.now (map f c.args.constants.now) c.args.coefficients.now (f c.args.q) _ (sym e) in
    let r = c.record_of.ensures ∙ recorded_front c.args.self.now.count c.args.coefficients.now p.long in
    rw (sym e, r, m)
