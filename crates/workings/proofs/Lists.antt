-- Parts of lists by index.
use Rattle.std.proofs.Common.{◌≡◌, ℕ, ◌+◌, ◌<◌, ◌≤◌, List, length, take, drop, ℤ, pos, sym, ap, ◌∙◌, arith}
use Rattle.std.proofs.lemmas.List.{get_or-take, get_or-drop, length-take-le, length-drop}
use Rattle.whole.specs.Lists.{tab, at}
use Rattle.whole.proofs.Lists.{tab_ext, tab_of}

-- the n numbers from place k on
pub slice_tab : (n k : ℕ) (xs : List ℤ) (f : ℕ → ℤ) → k + n ≤ length xs → ((j : ℕ) → j < n → at xs (k + j) ≡ f j) → take n (drop k xs) ≡ tab n f
slice_tab n k xs f h e =
    sym (tab_of (take n (drop k xs)) (pos 0)) ∙ ap (λ (m : ℕ). tab m (at (take n (drop k xs)))) long
    ∙ tab_ext n _ _ (λ j l. get_or-take n (drop k xs) j (pos 0) l ∙ get_or-drop k xs j (pos 0) ∙ e j l)
  where
    long : length (take n (drop k xs)) ≡ n
    long = length-take-le n (drop k xs) (let d = length-drop k xs in omega arith)
