-- A loop that writes place after place.
use Rattle.std.proofs.Common.{◌≡◌, ℕ, zero, suc, ◌+◌, ◌-◌, ◌<◌, Bool, false, List, [], ◌∷◌, ◌++◌, length, get_or, drop, set, ℤ, pos, sym, refl, ap, ◌∙◌, append_assoc, add-one, arith}
use Rattle.std.proofs.lemmas.List.{drop_more, set_at, get_or-append_right, get_or-drop}
use Rattle.std.proofs.lemmas.Bool.{or_from}
use Rattle.whole.specs.Lists.{tab}
use Rattle.whole.specs.Sums.{sum_below}
use Rattle.whole.specs.Tests.{any}

-- `done` is written, the rest of `xs` is as it was
module _ {X : Type 0} (done xs cells : List X) (j : ℕ) (is : cells ≡ done ++ drop j xs) (far : length done ≡ j) (h : j < length xs) where
  pub put_more : (d v : X) → set cells j v ≡ (done ++ v ∷ []) ++ drop (j + 1) xs
  put_more d v =
      ap (λ l. set l j v) (is ∙ ap (λ r. done ++ r) (drop_more xs j d h))
      ∙ set_at done (get_or xs j d) (drop (j + 1) xs) v j far
      ∙ sym (append_assoc done (v ∷ []) (drop (j + 1) xs))

  pub read_next : (d : X) → get_or cells j d ≡ get_or xs j d
  read_next d =
      let e : j + (j - j) ≡ j = omega arith in
      ap (λ l. get_or l j d) is
      ∙ get_or-append_right done (drop j xs) j j d far (omega arith)
      ∙ get_or-drop j xs (j - j) d
      ∙ ap (λ n. get_or xs n d) e

tab_suc : {X : Type 0} (n : ℕ) (f : ℕ → X) → tab (suc n) f ≡ tab n f ++ f n ∷ []
tab_suc zero f = refl
tab_suc (suc n) f = ap (λ l. f 0 ∷ l) (tab_suc n (λ i. f (suc i)))

pub tab_more : {X : Type 0} (n : ℕ) (f : ℕ → X) → tab (n + 1) f ≡ tab n f ++ f n ∷ []
tab_more n f = ap (λ k. tab k f) (add-one n) ∙ tab_suc n f

pub any_more : (n : ℕ) (p : ℕ → Bool) → any n p ≡ false → p n ≡ false → any (n + 1) p ≡ false
any_more n p e f = ap (λ (k : ℕ). any k p) (add-one n) ∙ or_from (any n p) (p n) e f

pub sum-none : (f : ℕ → ℤ) → sum_below 0 f ≡ pos 0
unfolding sum_below
sum-none f = refl
