use Rattle.std.proofs.Common.{◌≡◌, ℕ, min, false, ltb, List, map, length, take, pos, Ok, ap, ◌∙◌, arith}
use Rattle.std.proofs.lemmas.List.{length-map, length-take-le}
use Rattle.std.proofs.lemmas.Bool.{le-ltb}
use Rattle.std.proofs.lemmas.Bool.Decides.{nat_tests}
use Rattle.whole.specs.Lists.{tab}
use Rattle.whole.proofs.Lists.{tab-length}
use Rattle.rules.specs.Sheets.{Sheet}
use Rattle.rules.specs.Values.{Coords, zeros}
use Rattle.sheets.proofs.Writing.{written_front}
use Rattle.sheets.proofs.record.Sheet.open.Goals as goal

pub returns-then-values-min : goal.returns-then-values-min
returns-then-values-min g c = let n = length-map c.args.values.now g.K.Kind.coords in grind (arith, nat_tests)

pub returns-then-count-lt1 : goal.returns-then-count-lt1
returns-then-count-lt1 g c = let n = length-map c.args.values.now g.K.Kind.coords in grind (arith, nat_tests)

pub returns : goal.returns
returns g c =
    let n = length-map c.args.values.now g.K.Kind.coords in
    let a : ltb (length (map g.K.Kind.coords c.args.values.now)) (min c.args.count 48) ≡ false = le-ltb _ _ (omega arith) in
    let b = le-ltb _ _ c.if-count-lt1.false in
    let d = le-ltb _ _ c.if-count-gt-MOST_PARAMETERS.false in
    let z : length (take c.args.count c.args.values.now) ≡ c.args.count = length-take-le c.args.count c.args.values.now (omega arith) in
    let zs = zeros c.args.count g.K.Kind.size in
    let l = tab-length c.args.count (λ s. tab g.K.Kind.size (λ k. pos 0)) in
    let set : map g.K.Kind.coords c.clear.new.values ≡ zs = c.clear.ensures ∙ ap (λ (n : ℕ). zeros n g.K.Kind.size) z in
    let w = written_front g.K.Kind.coords c.args.count zs c.clear.new.values c.args.values.now set (omega arith) in
    let shown : Sheet = record { count = c.args.count; bound = 0; d = pos 1 } in
    rw (a, b, d) (ap (λ (vs : List Coords). (Ok shown, vs)) w)
