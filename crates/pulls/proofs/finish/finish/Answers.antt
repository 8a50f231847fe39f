use Rattle.std.proofs.Common.{◌≡◌, ℕ, Bool, ◌||◌, ltb, List, [], false, map, length, get_or, ℤ, pos, ◌*ℤ◌, Result, sym, ap, ◌∙◌, subst, ap₂, arith, w64, SFits, rules}
use Rattle.std.proofs.lemmas.List.{length-map}
use Rattle.std.proofs.lemmas.Bool.{or_parts}
use Rattle.std.proofs.lemmas.Int.{to_z-of_z}
use Rattle.records.specs.Outcomes.{guard, image}
use Rattle.records.specs.declared.refusal.Refusal.{Refusal}
use Rattle.records.specs.declared.refusal.Refusal.TheVariants.{TooFine}
use Rattle.whole.specs.Tests.{any}
use Rattle.rules.specs.Sheets.{bad_denominator}
use Rattle.rules.specs.Pulling.{Placing, lowest, settled, some_above}
use Rattle.workings.specs.Shown.{shown}
use Rattle.fractions.specs.declared.multiple.Multiple.{Multiple}
use Rattle.fractions.specs.Multiple.{multiple, strays}
use Rattle.fractions.specs.Settling.{settling}
use Rattle.fractions.proofs.Multiplied.{all_stay}
use Rattle.fractions.proofs.Refusing.{guard_ok}
use Rattle.pulls.specs.Finish.{all_multiplied, numerators_by}
use Rattle.pulls.proofs.Within.{within}
use Rattle.pulls.proofs.Finishing.{settled_is}
use Rattle.pulls.proofs.finish.finish.Goals as goal

pub write_numerators-requires : goal.write_numerators-requires
write_numerators-requires g c =
    let f = g.K.Kind.coords in
    let t = c.args.task.now in
    let size = g.K.Kind.size in
    let ps = c.args.numbers.now in
    let us = map f c.args.sums.now in
    let l = c.in_ok-multiple.multiple.l in
    let same : length ps ≡ length us = c.requires.numbers ∙ sym (length-map c.args.sums.now f ∙ c.requires.sums) in
    let s = all_stay size l ps us same (map f c.multiply.new.sums) (ap (λ r. (r, map f c.multiply.new.sums)) (sym c.in_ok-multiply.was) ∙ c.multiply.ensures) in
    record {
      long = omega (arith, c.requires.sums, c.multiply.auto.sums);
      limited = subst (λ (x : List (List ℤ)). some_above 1000000000000 size (length t.rows.now) x ≡ false) (sym s.1)
          (subst (λ (m : ℕ). some_above 1000000000000 size m (all_multiplied size l ps us) ≡ false) c.requires.numbers (within size l ps us c.requires.spare s.0));
      proposed = c.requires.proposed;
    }

pub returns : goal.returns
returns g c =
    let f = g.K.Kind.coords in
    let t = c.args.task.now in
    let w = shown t.workings.now in
    let size = g.K.Kind.size in
    let n = w.count in
    let ps = c.args.numbers.now in
    let us = map f c.args.sums.now in
    let l = c.in_ok-multiple.multiple.l in
    let vs = map f t.values.now in
    let ws = map f t.wishes.now in
    let same : length ps ≡ length us = c.requires.numbers ∙ sym (length-map c.args.sums.now f ∙ c.requires.sums) in
    let s = all_stay size l ps us same (map f c.multiply.new.sums) (ap (λ r. (r, map f c.multiply.new.sums)) (sym c.in_ok-multiply.was) ∙ c.multiply.ensures) in
    let number : Result Multiple Refusal → Result ℕ Refusal = λ r. image (λ m. m.l) r in
    let a = guard_ok (ltb 2147483647 (multiple (length ps) ps)) TooFine (multiple (length ps) ps) l (sym (ap number c.in_ok-multiple.was) ∙ c.of.ensures) in
    let fd : SFits w64 t.d = search rules in
    let fine = (or_parts (ltb (length vs) n) _ (or_parts (ltb (length vs) n || bad_denominator t.d) _ t.fit).0).1 in
    let made = c.write_numerators.ensures ∙ ap (numerators_by size n w.roles w.shares l t.d vs ws t.relations.now t.rows.now) s.1 in
    let long = c.write_numerators.auto.proposal ∙ c.requires.proposed in
    let whole : ℕ → List (List ℤ) = λ l. numerators_by size n w.roles w.shares l t.d vs ws t.relations.now t.rows.now (all_multiplied size l ps us) in
    let ended : ℕ → Result Placing Refusal = λ l. settled size n (lowest size n (pos l *ℤ t.d) (whole l)) in
    settled_is size (length c.write_numerators.new.proposal) l t.d (map f c.write_numerators.new.proposal) fine c.settle.result (map f c.settle.new.proposal)
    (c.settle.ensures ∙ ap (λ (z : ℤ). settling size (length c.write_numerators.new.proposal) l z (map f c.write_numerators.new.proposal)) (to_z-of_z w64 t.d fd))
    ∙ ap₂ (λ (k : ℕ) (xs : List (List ℤ)). settled size k (lowest size k (pos l *ℤ t.d) xs)) long made
    ∙ sym (ap₂ (λ (p q : Bool). guard (p || q) TooFine (ended l)) (ap (ltb 2147483647) a.0 ∙ a.1) s.0)
    ∙ ap (λ (l : ℕ). guard (ltb 2147483647 l || any (length ps) (λ i. strays size l (get_or ps i 0) (get_or us i []))) TooFine (ended l)) a.0
