use Rattle.std.proofs.Common.{map, ℤ, Ok, Err, sym, ap, ◌∙◌, subst, w64, SFits, rules}
use Rattle.std.proofs.lemmas.Int.{to_z-of_z}
use Rattle.rules.specs.Runs.{told}
use Rattle.sheets.specs.Shown.{numbers}
use Rattle.workings.specs.Shown.{shown}
use Rattle.law.specs.Facts.{PulledRightly}
use Rattle.grips.proofs.Proposing.{gave}
use Rattle.grips.proofs.token.Grip.pull.Goals as goal

pub returns-in-Ok : goal.returns-in-Ok
returns-in-Ok g c =
    let f = g.K.Kind.coords in
    let size = g.K.Kind.size in
    let s = numbers c.args.self.sheet in
    let vs = c.args.values.now in
    let rs = c.args.relations.now in
    let qs = map f c.args.constants.now in
    let w = shown c.args.workings.now in
    let wishes = map f c.args.wishes.now in
    let after = map f c.propose.new.proposal in
    let d = c.in-Ok.denominator in
    let G = gave f size g.met.K.Kind.laws.sized s c.args.self.sheet.room vs rs qs w wishes (map f c.args.proposal.now) (map f c.args.working.now) (Ok d) after (map f c.propose.new.working) c.in-Ok.ensures in
    let fits : SFits w64 d = search rules in
    let read = to_z-of_z w64 d fits in
    record {
      result = ap (λ (x : ℤ). Ok (s, x)) read ∙ G.result;
      proposal = G.proposal_is;
      working = G.working_is;
      rightly = subst (λ (x : ℤ). PulledRightly size s (map f vs) rs qs w wishes (told s.count after (Ok x))) (sym read) G.rightly;
    }

pub returns-in-Err : goal.returns-in-Err
returns-in-Err g c =
    let f = g.K.Kind.coords in
    let G = gave f g.K.Kind.size g.met.K.Kind.laws.sized (numbers c.args.self.sheet) c.args.self.sheet.room c.args.values.now c.args.relations.now (map f c.args.constants.now) (shown c.args.workings.now) (map f c.args.wishes.now)
    (map f c.args.proposal.now) (map f c.args.working.now) (Err c.in-Err.refusal) (map f c.propose.new.proposal) (map f c.propose.new.working) c.in-Err.ensures in
    record { result = G.result; proposal = G.proposal_is; working = G.working_is; rightly = G.rightly }
