use Rattle.std.proofs.Common.{◌≡◌, Bool, not, ◌&&◌, ◌||◌, List, [], ◌∷◌, map, refl, ap, ◌∙◌, rules, arith}
use Rattle.std.specs.List.{list_any, zip}
use Rattle.std.proofs.lemmas.Iterator.Search.{any_from_yields_List}
use Rattle.std.proofs.lemmas.Iterator.{YieldsList-from_slice, YieldsList-from_zip}
use Rattle.std.proofs.lemmas.List.{length-map}
use Rattle.records.specs.declared.role.Role.{Role}
use Rattle.records.specs.declared.role.Role.TheVariants.{Held}
use Rattle.whole.specs.Lists.{at}
use Rattle.whole.specs.Tests.{any, above}
use Rattle.whole.proofs.Chains.{any_zip_long}
use Rattle.rules.specs.Values.{Coords}
use Rattle.rules.specs.Gripping.{is_held}
use Rattle.pulls.proofs.wishes.far_wish.Goals as goal

-- a test of the coordinates of each second
any_mapped : {X K : Type 0} (f : K → Coords) (p : X → Coords → Bool) (xs : List X) (ys : List K) → list_any (λ q. p q.0 (f q.1)) (zip xs ys) ≡ list_any (λ q. p q.0 q.1) (zip xs (map f ys))
any_mapped f p [] ys = refl
any_mapped f p (x ∷ xs) [] = refl
any_mapped f p (x ∷ xs) (y ∷ ys) = ap (λ (b : Bool). p x (f y) || b) (any_mapped f p xs ys)

pub returns : goal.returns
returns g c =
    let f = g.K.Kind.coords in
    let far : Role → Coords → Bool = λ r us. not (is_held r) && any g.K.Kind.size (λ k. above 47560 (at us k)) in
    let long = length-map c.args.wishes.now f in
    any_from_yields_List (λ q. far q.0 (f q.1)) c.any.new.self _ _ c.any.ensures.ran (YieldsList-from_zip (YieldsList-from_slice c.args.roles.now cc) (YieldsList-from_slice c.args.wishes.now cc)) (λ x b q k. search rules)
    ∙ any_mapped f far c.args.roles.now c.args.wishes.now ∙ any_zip_long far Held [] c.args.roles.now (map f c.args.wishes.now) (omega (arith, c.requires))
