-- A finished elimination has the meaning.
use Rattle.std.proofs.Common.{ℕ, ◌<◌, ℤ, pos, ◌≤ℤ◌, sym, subst, ⊎_elim, le_refl}
use lib.Signed.{≤ℤ_refl}
use Rattle.whole.proofs.Integers.{<→≤, not_both}
use Rattle.linear.specs.Elimination.{Grid, entry, right_half, start, steps}
use Rattle.linear.specs.Invariant.{Invariant}
use Rattle.linear.specs.Meaning.{Meaning}
use Rattle.linear.specs.Theorems.{Diagonal, Finished}
use Rattle.linear.proofs.Elimination.{invariant}
use Rattle.linear.proofs.Limits.{accepted}

-- the invariant after the last step, less what only the steps need
pub meaning_of : (n m : ℕ) (v : ℕ → ℤ) (R : ℕ → ℕ → ℤ) (t : Grid) → Invariant n m v R m (entry t) (right_half m t) → Meaning n m v R t
meaning_of n m v R t I = record {
  halves = I.halves;
  kernel = I.kernel;
  diagonal = λ i l. ⊎_elim (λ z. subst (λ x. pos 0 ≤ℤ x) (sym (z i l)) (≤ℤ_refl (pos 0))) (λ q. <→≤ (entry t i i) q.0) (I.done i l);
  needed = λ i l h j b k d. ⊎_elim (λ z. absurd (k (z j b))) (λ q. q.1 i l d) (I.done j b);
  spare = λ i l e. ⊎_elim (λ z. z) (λ q. absurd (not_both (entry t i i) q.0 e)) (I.done i l);
}

pub steps_mean : (n m : ℕ) (v : ℕ → ℤ) (R : ℕ → ℕ → ℤ) → ((s : ℕ) → s < n → pos 0 ≤ℤ v s) → Meaning n m v R (steps m m (start n m v R))
steps_mean n m v R shares = meaning_of n m v R (steps m m (start n m v R)) (invariant n m v R shares m (le_refl m))

pub finished : Finished
finished n m v R t shares h = subst (Meaning n m v R) (sym (accepted m m (start n m v R) t h).0) (steps_mean n m v R shares)

pub diagonal : Diagonal
diagonal n m v R shares i l = let M = steps_mean n m v R shares in (M.diagonal i l, M.spare i l)
