use Rattle.std.proofs.Common.{◌≡◌, ℕ, List, [], ◌∷◌, map, sym, refl, ◌∙◌, rules}
use Rattle.std.specs.List.{fold}
use Rattle.std.proofs.lemmas.Iterator.{YieldsList-from_slice}
use Rattle.std.proofs.lemmas.Iterator.Consumers.{fold_from_yields_List}
use Rattle.rules.specs.Values.{Coords}
use Rattle.rules.specs.Pulling.{joined}
use Rattle.fractions.specs.Steps.{divisor_from}
use Rattle.fractions.proofs.Divisors.{divisor-append}
use Rattle.fractions.proofs.settling.divisor_over.Goals as goal

-- one value after the other
fold-joined : {K : Type 0} (f : K → Coords) (e : ℕ) (xs : List K) → fold (λ g v. divisor_from g (f v)) e xs ≡ divisor_from e (joined (map f xs))
fold-joined f e [] = refl
fold-joined f e (x ∷ xs) = fold-joined f (divisor_from e (f x)) xs ∙ sym (divisor-append e (f x) (joined (map f xs)))

pub returns : goal.returns
returns g c =
    let f = g.K.Kind.coords in
    let xs = c.args.proposal.now in
    fold_from_yields_List _ (λ a v. divisor_from a (f v)) c.args.e c.fold.result c.fold.ensures.ran (YieldsList-from_slice xs cc) (λ a x b q k. search rules) ∙ fold-joined f c.args.e xs
