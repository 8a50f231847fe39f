use Rattle.std.proofs.Common.{ℕ, ◌+◌, ◌<◌, List, [], ◌∷◌, length, set, sym, ap, ◌∙◌, ap₂, arith, length-append}
use Rattle.rules.specs.Values.{written}
use Rattle.grips.specs.Spares.{spare_marks}
use Rattle.grips.proofs.Listing.{spare_more, spare-same, grows, push_written}
use Rattle.grips.proofs.marks.write_spares.Goals as goal
use Rattle.grips.proofs.marks.write_spares.Goals.{then-is_spare, else-is_spare}

-- there is a place for one more
room : (c : goal.Then-is_spare) → c.loop-i.k < length c.args.spare.now
room c =
    let rs = c.args.relations.now in
    let i = c.loop-i.i in
    let more = ap length (spare_more rs i (sym c.if-is_spare.ensures)) in
    let one = length-append (spare_marks rs i) (i ∷ []) in
    let up = grows rs (i + 1) (length c.args.relations.now) (omega (arith, c.loop-i-test.true)) in
    omega (arith, c.loop-i.invariant.0, more, one, up, c.requires)

pub bounds-spare-k : goal.bounds-spare-k
bounds-spare-k c = omega (arith, room c, c.loop-i.auto.spare)

pub loop-i-preserved : goal.loop-i-preserved
loop-i-preserved c =
    let rs = c.args.relations.now in
    let old = c.args.spare.now in
    let i = c.loop-i.i in
    let k = c.loop-i.k in
    elim c.if-is_spare.branch [
      | then-is_spare w ↦
          let e = sym w.if-is_spare.ensures in
          let more = spare_more rs i e in
          let one = length-append (spare_marks rs i) (i ∷ []) in
          let up = grows rs (i + 1) (length c.args.relations.now) (omega (arith, c.loop-i-test.true)) in
          let long = ap length more in (
            omega (arith, w.k-is, c.loop-i.invariant.0, long, one),
            w.spare-is ∙ ap (λ (xs : List ℕ). set xs k i) c.loop-i.invariant.1
                ∙ push_written (spare_marks rs i) old i k c.loop-i.invariant.0 (omega (arith, c.loop-i.invariant.0, long, one, up, c.requires))
                ∙ ap₂ (λ (j : ℕ) (xs : List ℕ). written j xs old) (sym w.k-is) (sym more),
          )
      | else-is_spare w ↦
          let same = spare-same rs i (sym w.if-is_spare.ensures) in (
            w.k-is ∙ c.loop-i.invariant.0 ∙ ap length (sym same),
            w.spare-is ∙ c.loop-i.invariant.1 ∙ ap₂ (λ (j : ℕ) (xs : List ℕ). written j xs old) (sym w.k-is) (sym same),
          )
    ]
