-- Marks follow the coefficients of relations, and not their constants.
use Rattle.std.proofs.Common.{◌≡◌, ℕ, zero, suc, cond, List, [], ◌∷◌, map, get_or, refl}
use Rattle.std.proofs.lemmas.List.{length-map}
use Rattle.records.specs.declared.relation.Mark.TheVariants.{Idle, Needed, Spare}
use Rattle.records.specs.declared.relation.Relation.{Relation}
use Rattle.records.specs.declared.role.Role.{Role}
use Rattle.whole.specs.Lists.{tab}
use Rattle.whole.specs.Tests.{tally}
use Rattle.linear.specs.Elimination.{Grid}
use Rattle.rules.specs.Sheets.{Bond, no_bond, relation_at}
use Rattle.rules.specs.Values.{written}
use Rattle.rules.specs.Gripping.{counts, is_needed, mark_of, with_mark, marked}
use Rattle.workings.proofs.Bonds.{strip}

strip_at : (bs : List Bond) (i : ℕ) → get_or (map strip bs) i no_bond ≡ strip (get_or bs i no_bond)
strip_at [] i = refl
strip_at (b ∷ bs) zero = refl
strip_at (b ∷ bs) (suc i) = strip_at bs i

module _ (n : ℕ) (roles : List Role) where
  mark_strip : (bs : List Bond) (t : Grid) (i : ℕ) → mark_of n roles (map strip bs) t i ≡ mark_of n roles bs t i
  mark_strip bs t i = λ d. cond (counts n roles (strip_at bs i d).coefs) (cond (is_needed t (tally i (λ j. counts n roles (strip_at bs j d).coefs))) Needed Spare) Idle

  pub marked_strip : (bs : List Bond) (t : Grid) (rs : List Relation) → marked n roles (map strip bs) t rs ≡ marked n roles bs t rs
  marked_strip bs t rs = λ d. written (length-map bs strip d) (tab (length-map bs strip d) (λ i. with_mark (relation_at rs i) (mark_strip bs t i d))) rs
