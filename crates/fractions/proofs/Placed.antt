-- Lists written from their first place on.
use Rattle.std.proofs.Common.{◌≡◌, ℕ, ◌+◌, ◌-◌, ◌<◌, ◌≤◌, List, length, get_or, take, drop, set, ℤ, pos, sym, ap, ◌∙◌, ap₂, zero-add, arith}
use lib.Seq.{paste}
use Rattle.std.proofs.lemmas.List.{get_or-append_right, get_or-drop, length-take-le}
use Rattle.std.proofs.lemmas.List.Edits.{paste_more}
use Rattle.whole.specs.Lists.{tab, at}
use Rattle.whole.proofs.Lists.{tab_ext, tab_of}
use Rattle.rules.specs.Values.{written}

-- a place that is not written yet
pub written_past : {X : Type 0} (n : ℕ) (new old : List X) (d : X) (i : ℕ) → n ≤ length new → n ≤ i → get_or (written n new old) i d ≡ get_or old i d
written_past n new old d i h k =
    let z = zero-add n in
    let e : n + (i - n) ≡ i = omega arith in
    get_or-append_right (take n new) (drop (0 + n) old) n i d (length-take-le n new h) k
    ∙ ap (λ (j : ℕ). get_or (drop j old) (i - n) d) z ∙ get_or-drop n old (i - n) d ∙ ap (λ (j : ℕ). get_or old j d) e

-- one place more
pub written_set : {X : Type 0} (new old xs : List X) (s : ℕ) (v d : X) → s < length new → s < length old → v ≡ get_or new s d → xs ≡ written s new old → set xs s v ≡ written (s + 1) new old
written_set new old xs s v d long room e p =
    let m = zero-add s in
    ap₂ (λ (l : List _) (x : _). set l s x) p e ∙ ap (λ (j : ℕ). set (paste old 0 new s) j (get_or new s d)) (sym m) ∙ paste_more old 0 new s d (omega arith) long

-- the coordinates that a value has
pub tabbed : (size : ℕ) (us : List ℤ) (f : ℕ → ℤ) → length us ≡ size → ((c : ℕ) → c < size → at us c ≡ f c) → us ≡ tab size f
tabbed size us f e h = sym (tab_of us (pos 0)) ∙ ap (λ (n : ℕ). tab n (λ c. at us c)) e ∙ tab_ext size (λ c. at us c) f h
