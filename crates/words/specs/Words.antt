-- Words with a byte between each two, and bytes cut at that byte.
use Rattle.std.specs.Prelude.{ℕ, cond, List, [], ◌∷◌, ◌++◌, ◌==◌}

-- words with the byte s between each two
abbrev pub joined_by : ℕ → List (List ℕ) → List ℕ
joined_by s [] = []
joined_by s (w ∷ []) = w
joined_by s (w ∷ v ∷ ws) = w ++ s ∷ joined_by s (v ∷ ws)

-- each word behind a space
abbrev pub spaced : List (List ℕ) → List ℕ
spaced [] = []
spaced (w ∷ ws) = 32 ∷ (w ++ spaced ws)

-- the byte in front of the first word
abbrev pub on_first : ℕ → List (List ℕ) → List (List ℕ)
on_first b [] = (b ∷ []) ∷ []
on_first b (w ∷ ws) = (b ∷ w) ∷ ws

-- the bytes cut at each s
abbrev pub pieces : ℕ → List ℕ → List (List ℕ)
pieces s [] = [] ∷ []
pieces s (b ∷ bs) = cond (b == s) ([] ∷ pieces s bs) (on_first b (pieces s bs))
