use Rattle.std.proofs.Common.{◌∙◌, ap, sym, map, w64, SFits, vec_items, arith, rules}
use Rattle.std.proofs.lemmas.Int.{to_z-of_z}
use Rattle.rules.specs.Runs.{placing}
use Rattle.calls.specs.Shown.{given_of}
use Rattle.answers.proofs.Longer.{placing_put}
use Rattle.answers.proofs.answer.put_given.Goals as goal

pub returns-in_ok-append_number-in-Placing : goal.returns-in_ok-append_number-in-Placing
returns-in_ok-append_number-in-Placing g c =
    let fits : SFits w64 c.in-Placing.denominator = search rules in
    placing_put g.K.Kind.coords c.put_values.result c.args.given.now c.in-Placing.denominator _ c.as_slice-in-Placing.result.now (vec_items c.args.out.now) (vec_items c.append_bytes.new.out) (vec_items c.append_number.new.out) (vec_items c.put_values.new.out) _
    (ap (given_of g.K.Kind.coords) c.in-Placing.is ∙ ap (λ vs. placing (record { over = c.in-Placing.denominator; nums = map g.K.Kind.coords vs })) (sym c.as_slice-in-Placing.ensures.value)) (to_z-of_z w64 _ fits) c.in_ok-append_bytes-in-Placing.ensures (omega arith) c.in_ok-append_number-in-Placing.ensures c.put_values.ensures
