-- What the common multiple and the lowest terms say of a pull.
use Rattle.std.proofs.Common.{◌≡◌, ℕ, Bool, true, false, cond, List, ℤ, pos, ◌*ℤ◌, Ok, Err, Result, sym, refl, ap, ◌∙◌, true≢false}
use lib.Signed.{lt_z}
use Rattle.records.specs.Outcomes.{guard, onward}
use Rattle.records.specs.declared.refusal.Refusal.{Refusal}
use Rattle.records.specs.declared.refusal.Refusal.TheVariants.{Unfit, TooFine, OffSheet, GapTooLarge, Impossible}
use Rattle.rules.specs.Values.{Coords}
use Rattle.rules.specs.Sheets.{bad_denominator, bad_values}
use Rattle.rules.specs.Pulling.{Placing, lowest, settled}
use Rattle.fractions.specs.Settling.{settling}
use Rattle.pulls.specs.Steps.{placed}

-- the list that was settled is the placing
pub settled_is : (size n l : ℕ) (d : ℤ) (us : List Coords) → bad_denominator d ≡ false → (r : Result ℤ Refusal) (xs : List Coords) → (r, xs) ≡ settling size n l d us → placed r xs ≡ settled size n (lowest size n (pos l *ℤ d) us)
settled_is size n l d us fine r xs e = whole (e ∙ ap (λ (b : Bool). cond b (Err Unfit, us) (ended (lt_z (pos 45000) p.over) (bad_values size n p.over p.nums))) fine)
  where
    p : Placing
    p = lowest size n (pos l *ℤ d) us

    ended : Bool → Bool → Result ℤ Refusal × List Coords
    ended a b = cond a (Err TooFine, us) (guard b OffSheet (Ok p.over), p.nums)

    by : (a b : Bool) → placed (ended a b).0 (ended a b).1 ≡ guard a TooFine (guard b OffSheet (Ok p))
    by true b = refl
    by false true = refl
    by false false = refl

    whole : (r, xs) ≡ ended (lt_z (pos 45000) p.over) (bad_values size n p.over p.nums) → placed r xs ≡ settled size n p
    whole h = ap (λ (z : Result ℤ Refusal × List Coords). placed z.0 z.1) h ∙ by (lt_z (pos 45000) p.over) (bad_values size n p.over p.nums)

-- what the rows answer
abbrev rows : Bool → Bool → Result (Unit {0}) Refusal → Result (Unit {0}) Refusal
rows a b x = guard a GapTooLarge (guard b Impossible x)

-- rows that refuse, refuse the pull
pub rows_refuse : {A : Type 0} (a b : Bool) (x : Result A Refusal) (e : Refusal) → rows a b (Ok tt) ≡ Err e → Err e ≡ guard a GapTooLarge (guard b Impossible x)
rows_refuse a b x e h = sym (ap (λ (r : Result (Unit {0}) Refusal). onward r (λ _. x)) h) ∙ by a b
  where
    by : (a b : Bool) → onward (rows a b (Ok tt)) (λ _. x) ≡ guard a GapTooLarge (guard b Impossible x)
    by true b = refl
    by false true = refl
    by false false = refl

-- and rows that stand
pub rows_stand : (a b : Bool) → rows a b (Ok tt) ≡ Ok tt → (a ≡ false) × (b ≡ false)
rows_stand a b h = by a b (ap refused h)
  where
    refused : Result (Unit {0}) Refusal → Bool
    refused (Ok x) = false
    refused (Err e) = true

    by : (a b : Bool) → refused (rows a b (Ok tt)) ≡ false → (a ≡ false) × (b ≡ false)
    by true b h = absurd (true≢false h)
    by false true h = absurd (true≢false h)
    by false false h = (refl, refl)
