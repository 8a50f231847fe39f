use Rattle.std.proofs.Common.{◌≡◌, ℕ, ◌+◌, min, List, [], ◌∷◌, ◌++◌, length, replicate, sym, ap, ◌∙◌, ap₂, arith}
use Rattle.rules.specs.Values.{written}
use Rattle.roles.specs.Places.{places}
use Rattle.roles.proofs.Places.{places_more, places_same, length_more, rows_more, rows_full}
use Rattle.roles.proofs.counted_relations.Goals as goal
use Rattle.roles.proofs.counted_relations.Goals.{then-relation_counts, then-m-lt12, else-m-lt12, else-relation_counts}

pub loop-i-preserved : goal.loop-i-preserved
loop-i-preserved c =
    let roles = c.args.roles.now in
    let rs = c.args.relations.now in
    let i = c.loop-i.i in
    let m = c.loop-i.m in
    let xs = places roles rs i in
    elim c.if-relation_counts.branch [
      | then-relation_counts w ↦
          let e = sym w.if-relation_counts.ensures in
          let more = places_more roles rs i e in
          let now : (rows : List ℕ) → rows ≡ written (min (m + 1) 12) (xs ++ (i ∷ [])) (replicate 12 0) → rows ≡ written (min c.if-relation_counts.m 12) (places roles rs (i + 1)) (replicate 12 0) =
          λ rows p. p ∙ ap₂ (λ (k : ℕ) (l : List ℕ). written (min k 12) l (replicate 12 0)) (sym w.m-is) (sym more) in (
            w.m-is ∙ length_more roles rs i e m c.loop-i.invariant.0,
            w.rows-is ∙ now _ (elim w.if-m-lt12.branch [
              | then-m-lt12 v ↦ v.rows-is ∙ rows_more xs c.loop-i.rows i m c.loop-i.invariant.0 v.if-m-lt12.true c.loop-i.invariant.1
              | else-m-lt12 v ↦ v.rows-is ∙ rows_full xs c.loop-i.rows i m c.loop-i.invariant.0 v.if-m-lt12.false c.loop-i.invariant.1
            ]),
            omega (arith, w.m-is, c.loop-i.invariant.2),
          )
      | else-relation_counts w ↦
          let same = places_same roles rs i (sym w.if-relation_counts.ensures) in (
            w.m-is ∙ c.loop-i.invariant.0 ∙ ap (λ (l : List ℕ). length l) (sym same),
            w.rows-is ∙ c.loop-i.invariant.1 ∙ ap₂ (λ (k : ℕ) (l : List ℕ). written (min k 12) l (replicate 12 0)) (sym w.m-is) (sym same),
            omega (arith, w.m-is, c.loop-i.invariant.2),
          )
    ]
