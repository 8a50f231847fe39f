-- A list whose places are written one after the other, until one must not be.
use Rattle.std.specs.Prelude.{ℕ, suc, Bool, cond, List}
use Rattle.whole.specs.Lists.{tab}
use Rattle.whole.specs.Tests.{any}

-- n places: the new ones before the first that p holds for, and the old ones from it on.
abbrev pub until : {X : Type 0} → ℕ → (ℕ → Bool) → (ℕ → X) → (ℕ → X) → List X
until n p new old = tab n (λ i. cond (any (suc i) p) (old i) (new i))
