use Rattle.std.proofs.Common.{◌≡◌, ◌<◌, ◌++◌, length, get_or, pos, refl, ap, ◌∙◌, vec_items, rules, arith}
use Rattle.std.specs.Fmt.{signed_decimal}
use Rattle.answers.proofs.Longer.{first_coordinate, next_coordinate}
use Rattle.answers.proofs.value.put_value.Goals as goal
use Rattle.answers.proofs.value.put_value.Goals.{then-k-gt0+in_ok-append_bytes, else-k-gt0}

pub loop-k-preserved : goal.loop-k-preserved
loop-k-preserved g c =
    let cs = g.K.Kind.coords c.args.v in
    let inside : c.loop-k.k < length cs = omega (arith, c.loop-k-test.true, c.count-k-end.ensures, g.met.K.Kind.laws.sized c.args.v) in
    let put : vec_items c.append_number.new.out ≡ vec_items c.if-k-gt0.out ++ signed_decimal (get_or cs c.loop-k.k (pos 0)) = search (rules, c.in_ok-append_number.ensures, c.read.ensures) in
    elim c.if-k-gt0.branch [
      | then-k-gt0+in_ok-append_bytes w ↦ next_coordinate cs c.loop-k.k _ inside refl (vec_items c.args.out.now) (vec_items c.loop-k.out) (vec_items w.append_bytes.new.out) (vec_items c.append_number.new.out) _
          w.if-k-gt0.true c.loop-k.invariant w.in_ok-append_bytes.ensures (omega arith) (put ∙ ap (λ o. vec_items o ++ signed_decimal (get_or cs c.loop-k.k (pos 0))) w.out-is)
      | else-k-gt0 w ↦ first_coordinate cs c.loop-k.k _ inside refl (vec_items c.args.out.now) (vec_items c.loop-k.out) (vec_items c.append_number.new.out) (λ l. omega (arith, l, w.if-k-gt0.false)) c.loop-k.invariant
          (put ∙ ap (λ o. vec_items o ++ signed_decimal (get_or cs c.loop-k.k (pos 0))) w.out-is)
    ]
