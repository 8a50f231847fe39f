use Rattle.std.proofs.Common.{rules, ◌≡◌, not, ◌&&◌, Bool, true, false, refl, ◌∙◌, ℤ, pos}
use Rattle.std.proofs.lemmas.Iterator.Search.{any_from_yields_List}
use Rattle.std.proofs.lemmas.Iterator.{YieldsList-from_slice, YieldsList-from_zip}
use Rattle.whole.specs.Tests.{nonzero}
use Rattle.whole.proofs.Chains.{any_zip}
use Rattle.records.specs.declared.role.Role.{Role}
use Rattle.records.specs.declared.role.Role.TheVariants.{Held}
use Rattle.rules.specs.Gripping.{is_held}
use Rattle.roles.proofs.relation_counts.Goals as goal

abbrev moved : Role → ℤ → Bool
moved r x = not (is_held r) && nonzero x

none : (b : Bool) → (b && false) ≡ false
none true = refl
none false = refl

pub returns : goal.returns
returns c =
    any_from_yields_List (λ q. moved q.0 q.1) c.any.new.self _ _ c.any.ensures.ran (YieldsList-from_zip (YieldsList-from_slice c.args.roles.now cc) (YieldsList-from_slice c.args.coefficients.now cc)) (λ x b q k. search rules)
    ∙ any_zip moved Held (pos 0) c.args.roles.now c.args.coefficients.now (λ r. none (not (is_held r)))
