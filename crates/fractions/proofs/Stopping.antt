-- A list that was written up to the first place that must not be.
use Rattle.std.proofs.Common.{◌≡◌, ℕ, suc, ◌<◌, Bool, true, false, cond, List, length, get_or, sym, ap, ◌∙◌, arith}
use native.Mathlib.Decide.{dec_lt}
use Rattle.whole.specs.Lists.{tab}
use Rattle.whole.specs.Tests.{any}
use Rattle.whole.proofs.Lists.{tab-length, tab_ext, tab_of, get_or-tab}
use Rattle.whole.proofs.Tests.{any_false, none_any, some-any}
use Rattle.rules.specs.Values.{written}
use Rattle.rules.proofs.Bonds.{get_or-written, length-written}
use Rattle.fractions.specs.Stopped.{until}
use Rattle.fractions.proofs.Placed.{written_past}

module _ {X : Type 0} (n : ℕ) (p : ℕ → Bool) (new : ℕ → X) (old : List X) (d : X) (long : length old ≡ n) where
  -- the i places before the first one are written
  pub stopped : (i : ℕ) → i < n → ((k : ℕ) → k < i → p k ≡ false) → p i ≡ true → (xs : List X) → xs ≡ written i (tab n new) old → xs ≡ until n p new (λ k. get_or old k d)
  stopped i l before here xs is = is ∙ sym (tab_of (written i (tab n new) old) d) ∙ ap (λ (k : ℕ). tab k (λ k. get_or (written i (tab n new) old) k d)) whole ∙ tab_ext n _ _ place
    where
      filled : length (tab n new) ≡ n
      filled = tab-length n new

      whole : length (written i (tab n new) old) ≡ n
      whole = length-written i (tab n new) old (omega (arith, filled)) (omega (arith, long)) ∙ long

      place : (k : ℕ) → k < n → get_or (written i (tab n new) old) k d ≡ cond (any (suc k) p) (get_or old k d) (new k)
      place k b = by (dec_lt k i)
        where
          by : Dec (k < i) → get_or (written i (tab n new) old) k d ≡ cond (any (suc k) p) (get_or old k d) (new k)
          by (yes h) = get_or-written i (tab n new) old d (omega (arith, filled)) k h ∙ get_or-tab n new d k b
              ∙ sym (ap (λ (t : Bool). cond t (get_or old k d) (new k)) (none_any (suc k) p (λ j o. before j (omega arith))))
          by (no h) = written_past i (tab n new) old d k (omega (arith, filled)) (omega arith)
              ∙ sym (ap (λ (t : Bool). cond t (get_or old k d) (new k)) (some-any (suc k) p i (omega arith) here))

-- all places are written
pub unstopped : {X : Type 0} (n : ℕ) (p : ℕ → Bool) (new old : ℕ → X) → any n p ≡ false → until n p new old ≡ tab n new
unstopped n p new old none = tab_ext n _ _ (λ i l. ap (λ (t : Bool). cond t (old i) (new i)) (none_any (suc i) p (λ j o. any_false n p none j (omega arith))))

-- the same of lists
module _ {X : Type 0} (n : ℕ) (p : ℕ → Bool) (new old : List X) (d : X) (filled : length new ≡ n) where
  all : tab n (λ k. get_or new k d) ≡ new
  all = sym (ap (λ (k : ℕ). tab k (λ k. get_or new k d)) filled) ∙ tab_of new d

  pub stopped_lists : length old ≡ n → (i : ℕ) → i < n → ((k : ℕ) → k < i → p k ≡ false) → p i ≡ true → (xs : List X) → xs ≡ written i new old
      → xs ≡ until n p (λ k. get_or new k d) (λ k. get_or old k d)
  stopped_lists long i l before here xs is = stopped n p (λ k. get_or new k d) old d long i l before here xs (is ∙ ap (λ (ys : List X). written i ys old) (sym all))

  pub unstopped_lists : any n p ≡ false → until n p (λ k. get_or new k d) (λ k. get_or old k d) ≡ new
  unstopped_lists none = unstopped n p (λ k. get_or new k d) (λ k. get_or old k d) none ∙ all
