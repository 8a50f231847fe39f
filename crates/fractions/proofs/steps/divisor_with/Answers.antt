use Rattle.std.proofs.Common.{◌≡◌, ℕ, zero, suc, ◌+◌, List, ◌∷◌, map, ℤ, pos, nat_abs, sym, refl, ap, ◌∙◌, ap₂, add-zero, zero-add, arith, rules}
use Rattle.std.specs.List.{fold, range_with_len}
use Rattle.std.proofs.lemmas.Iterator.{YieldsList-from_range}
use Rattle.std.proofs.lemmas.Iterator.Consumers.{fold_from_yields_List}
use Rattle.std.proofs.lemmas.List.Folds.{fold-map}
use Rattle.whole.specs.Lists.{tab, at}
use Rattle.whole.specs.Gcd.{gcd}
use Rattle.whole.proofs.Lists.{tab_ext, tab_of}
use Rattle.fractions.proofs.steps.divisor_with.Goals as goal

map-range : {X : Type 0} (f : ℕ → X) (a n : ℕ) → map f (range_with_len a n) ≡ tab n (λ i. f (a + i))
map-range f a zero = refl
map-range f a (suc n) = ap₂ (λ (x : _) (xs : List _). x ∷ xs) (ap f (sym (add-zero a))) (map-range f (a + 1) n ∙ tab_ext n _ _ (λ i l. ap f (step i)))
  where
    step : (i : ℕ) → a + 1 + i ≡ a + suc i
    step i = omega arith

pub returns : goal.returns
returns g c =
    let us = g.K.Kind.coords c.args.v in
    let n = g.K.Kind.size in
    let step : ℕ → ℤ → ℕ = λ g x. gcd g (nat_abs x) in
    fold_from_yields_List _ (λ g k. gcd g (nat_abs (at us k))) c.args.a c.fold.result c.fold.ensures.ran (YieldsList-from_range 0 n n (cc) (omega arith)) (λ a x b q k. search rules)
    ∙ sym (fold-map step (at us) c.args.a (range_with_len 0 n))
    ∙ ap (fold step c.args.a) (map-range (at us) 0 n ∙ tab_ext n _ _ (λ i l. ap (at us) (zero-add i)) ∙ ap (λ (k : ℕ). tab k (at us)) (sym (g.met.K.Kind.laws.sized c.args.v)) ∙ tab_of us (pos 0))
