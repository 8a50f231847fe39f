-- Marks written one after the other.
use Rattle.std.proofs.Common.{◌≡◌, ℕ, suc, ◌+◌, ◌<◌, ◌≤◌, Bool, true, false, cond, refl, add-one, List, [], ◌++◌, length, get_or, take, drop, set, sym, ap, ◌∙◌, ap₂, zero-add, arith, get_or-drop, get_or-append-add}
use lib.Seq.{paste}
use Rattle.std.proofs.lemmas.List.Edits.{paste_more}
use Rattle.std.proofs.lemmas.List.{append-nil, drop_all, length-map, length-take-le, get_or-map, get_or-take}
use Rattle.records.specs.declared.relation.Mark.{Mark}
use Rattle.records.specs.declared.relation.Mark.TheVariants.{Idle, Needed, Spare}
use Rattle.records.specs.declared.relation.Relation.{Relation}
use Rattle.records.specs.declared.role.Role.{Role}
use Rattle.whole.specs.Lists.{tab}
use Rattle.whole.specs.Tests.{nonzero, tally}
use Rattle.whole.proofs.Lists.{tab-length, tab_ext, get_or-tab}
use Rattle.linear.specs.Elimination.{Grid, entry}
use Rattle.rules.specs.Values.{written}
use Rattle.rules.specs.Sheets.{Bond, bond, no_bond, relation_at}
use Rattle.rules.specs.Gripping.{counts, row_of, mark_of, with_mark, marked}
use Rattle.rules.proofs.Bonds.{none}
use Rattle.workings.specs.Chosen.{bare}
use Rattle.workings.proofs.Counting.{counts-take}

-- the relations with their marks
abbrev pub marks : ℕ → List Role → List Bond → Grid → List Relation → List Relation
marks n roles bs t rs = tab (length bs) (λ i. with_mark (relation_at rs i) (mark_of n roles bs t i))

-- the place behind those that were written
pub written_next : {X : Type 0} (new old : List X) (i : ℕ) (z : X) → i ≤ length new → get_or (written i new old) i z ≡ get_or old i z
written_next new old i z h =
    let a : length (take i new) + 0 ≡ i = let e = length-take-le i new h in omega (arith, e) in
    ap (λ (k : ℕ). get_or (written i new old) k z) (sym a)
    ∙ get_or-append-add (take i new) (drop (0 + i) old) 0 z
    ∙ get_or-drop (0 + i) old 0 z
    ∙ ap (λ (k : ℕ). get_or old k z) (let b : 0 + i + 0 ≡ i = omega arith in b)

-- a tally, one index further
pub tally_next : (i : ℕ) (p : ℕ → Bool) (b : Bool) → p i ≡ b → tally (i + 1) p ≡ cond b (tally i p + 1) (tally i p)
tally_next i p b e = ap (λ k. tally k p) (add-one i) ∙ ap (λ (c : Bool). elim c as (λ z. ℕ) [ true ↦ suc (tally i p) | false ↦ tally i p ]) e ∙ by b
  where
    by : (b : Bool) → elim b as (λ z. ℕ) [ true ↦ suc (tally i p) | false ↦ tally i p ] ≡ cond b (tally i p + 1) (tally i p)
    by true = sym (add-one (tally i p))
    by false = refl

module _ (n : ℕ) (roles : List Role) (rs : List Relation) where
  abbrev pub bs : List Bond
  bs = bare n rs

  pub length_bs : length bs ≡ length rs
  length_bs = length-map rs (λ r. bond n r.coefficients [])

  -- relation i counts by its own coefficients
  pub counts-at : (i : ℕ) → i < length rs → counts n roles (get_or bs i no_bond).coefs ≡ counts n roles (relation_at rs i).coefficients
  counts-at i l = ap (λ (x : Bond). counts n roles x.coefs) (get_or-map (λ r. bond n r.coefficients []) rs i none no_bond l) ∙ counts-take n roles (relation_at rs i).coefficients

  -- one mark more
  pub marked_more : (t : Grid) (i row : ℕ) (now : List Relation) (k : Mark) (counted : Bool) → i < length rs → now ≡ written i (marks n roles bs t rs) rs → row ≡ row_of n roles bs i
      → counted ≡ counts n roles (relation_at rs i).coefficients → k ≡ cond counted (cond (nonzero (entry t row row)) Needed Spare) Idle
      → set now i (with_mark (relation_at rs i) k) ≡ written (i + 1) (marks n roles bs t rs) rs
  marked_more t i row now k counted l so e f g =
      let len = tab-length (length bs) (λ j. with_mark (relation_at rs j) (mark_of n roles bs t j)) in
      let z = zero-add i in
      let mark : k ≡ mark_of n roles bs t i = g ∙ ap₂ (λ (a : Bool) (r : ℕ). cond a (cond (nonzero (entry t r r)) Needed Spare) Idle) (f ∙ sym (counts-at i l)) e in
      ap₂ (λ (xs : List Relation) (x : Relation). set xs i x) so
      (ap (with_mark (relation_at rs i)) mark ∙ sym (get_or-tab (length bs) (λ j. with_mark (relation_at rs j) (mark_of n roles bs t j)) none i (omega (arith, length_bs))))
      ∙ ap (λ (j : ℕ). set (paste rs 0 (marks n roles bs t rs) i) j (get_or (marks n roles bs t rs) i none)) (sym z)
      ∙ paste_more rs 0 (marks n roles bs t rs) i none (omega arith) (omega (arith, length_bs))

-- the first b relations marked, with the others behind them
module _ (n : ℕ) (roles : List Role) (t : Grid) (b : ℕ) (rs : List Relation) (h : b ≤ length rs) where
  abbrev first : List Bond
  first = bare n (take b rs)

  many : length first ≡ b
  many = length_bs n roles (take b rs) ∙ length-take-le b rs h

  same : marks n roles first t (take b rs) ≡ marks n roles first t rs
  same = tab_ext (length first) _ _ (λ i l. let e = many in ap (λ (r : Relation). with_mark r (mark_of n roles first t i)) (get_or-take b rs i none (omega arith)))

  nothing : drop (0 + length first) (take b rs) ≡ []
  nothing = drop_all (0 + length first) (take b rs) (let e = many in let f = length-take-le b rs h in omega arith)

  pub marked_front : marked n roles first t (take b rs) ++ drop b rs ≡ marked n roles first t rs
  marked_front =
      let e : b ≡ 0 + length first = let e = many in omega arith in
      (λ j. (take (length first) (same j) ++ nothing j) ++ drop b rs)
      ∙ ap (λ (l : List Relation). l ++ drop b rs) (append-nil (take (length first) (marks n roles first t rs)))
      ∙ ap (λ (m : ℕ). take (length first) (marks n roles first t rs) ++ drop m rs) e
