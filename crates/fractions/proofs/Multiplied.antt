-- The list of a multiplication that went to its end, and of one that did not.
use Rattle.std.proofs.Common.{◌≡◌, ℕ, ◌<◌, Bool, true, false, cond, not, List, [], length, get_or, Ok, Err, Result, sym, refl, ap, ◌∙◌, ap₂}
use Rattle.std.proofs.lemmas.Bool.{eq-eqb}
use Rattle.records.specs.Outcomes.{guard}
use Rattle.records.specs.declared.refusal.Refusal.{Refusal}
use Rattle.records.specs.declared.refusal.Refusal.TheVariants.{Unfit, TooFine}
use Rattle.whole.specs.Lists.{tab}
use Rattle.whole.specs.Tests.{any}
use Rattle.whole.proofs.Tests.{some-any, none_any}
use Rattle.rules.specs.Values.{Coords, written}
use Rattle.fractions.specs.Stopped.{until}
use Rattle.fractions.specs.Multiple.{strays, multiplied, multiplying}
use Rattle.fractions.proofs.Refusing.{guard_ok}
use Rattle.fractions.proofs.Stopping.{stopped, unstopped}

module _ (size l : ℕ) (ps : List ℕ) (us : List Coords) (same : length ps ≡ length us) where
  out : ℕ → Bool
  out i = strays size l (get_or ps i 0) (get_or us i [])

  pub new : ℕ → Coords
  new i = multiplied size l (get_or ps i 0) (get_or us i [])

  outcome : Bool → Bool → Result (Unit {0}) Refusal × List Coords
  unfolding out new
  outcome other stop = cond (not other) (Err Unfit, us) (guard stop TooFine (Ok tt), until (length ps) out new (λ i. get_or us i []))

  answered : (b : Bool) → any (length ps) out ≡ b → multiplying size l ps us ≡ outcome true b
  unfolding outcome out new
  answered b e = ap₂ outcome (eq-eqb (length ps) (length us) same) e

  -- row i is the first that strays
  pub stops : (i : ℕ) → i < length ps → ((k : ℕ) → k < i → strays size l (get_or ps k 0) (get_or us k []) ≡ false) → strays size l (get_or ps i 0) (get_or us i []) ≡ true
      → (xs : List Coords) → xs ≡ written i (tab (length ps) (λ k. multiplied size l (get_or ps k 0) (get_or us k []))) us → (Err TooFine, xs) ≡ multiplying size l ps us
  unfolding outcome out new
  stops i b before here xs is = ap (λ (x : List Coords). (Err TooFine, x)) (stopped (length ps) out new us [] (sym same) i b before here xs is) ∙ sym (answered true (some-any (length ps) out i b here))

  -- no row strays
  pub ends : ((k : ℕ) → k < length ps → strays size l (get_or ps k 0) (get_or us k []) ≡ false) → (xs : List Coords)
      → xs ≡ tab (length ps) (λ k. multiplied size l (get_or ps k 0) (get_or us k [])) → (Ok tt, xs) ≡ multiplying size l ps us
  unfolding outcome out new
  ends none xs is =
      ap (λ (x : List Coords). (Ok tt, x)) (is ∙ sym (unstopped (length ps) out new (λ i. get_or us i []) (none_any (length ps) out none)))
      ∙ sym (answered false (none_any (length ps) out none))

-- what an accepted multiplication says
pub all_stay : (size l : ℕ) (ps : List ℕ) (us : List Coords) → length ps ≡ length us → (xs : List Coords) → (Ok tt, xs) ≡ multiplying size l ps us
    → (any (length ps) (λ i. strays size l (get_or ps i 0) (get_or us i [])) ≡ false) × (xs ≡ tab (length ps) (λ i. multiplied size l (get_or ps i 0) (get_or us i [])))
unfolding out new outcome
all_stay size l ps us same xs e =
    let whole = e ∙ answered size l ps us same (any (length ps) (out size l ps us same)) refl in
    let r = guard_ok (any (length ps) (out size l ps us same)) TooFine tt tt (ap (λ (z : Result (Unit {0}) Refusal × List Coords). z.0) whole) in
    (r.1, ap (λ (z : Result (Unit {0}) Refusal × List Coords). z.1) whole ∙ unstopped (length ps) (out size l ps us same) (new size l ps us same) (λ i. get_or us i []) r.1)
