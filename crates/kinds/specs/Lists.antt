-- Lists of zeros.
use Rattle.std.specs.Prelude.{◌≡◌, ℕ, zero, suc, ◌<◌, List, ◌∷◌, length, replicate, ℤ, pos, refl}
use Rattle.std.proofs.Common.{ap, sym, ◌∙◌}
use Rattle.whole.specs.Lists.{tab, at}
use Rattle.whole.proofs.Lists.{tab_of, tab_ext}

pub tab_same : {X : Type 0} (n : ℕ) (x : X) → tab n (λ c. x) ≡ replicate n x
tab_same zero x = refl
tab_same (suc n) x = ap (λ xs. x ∷ xs) (tab_same n x)

-- a list of n numbers that are all 0
pub all_zero : (n : ℕ) (us : List ℤ) → length us ≡ n → ((c : ℕ) → c < n → at us c ≡ pos 0) → us ≡ tab n (λ c. pos 0)
all_zero n us e z = sym (tab_of us (pos 0)) ∙ ap (λ (k : ℕ). tab k (at us)) e ∙ tab_ext n (at us) (λ c. pos 0) z
