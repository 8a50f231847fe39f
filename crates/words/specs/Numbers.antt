-- How a card writes a whole number.
use Rattle.std.specs.Prelude.{◌≡◌, ℕ, suc, ◌<◌, ◌≤◌, List, ◌∷◌, length, ℤ, pos, negsuc, Some, None, Option, slice_index_or}
use Rattle.std.specs.Str.Parse.{IsNumeral, digits_value}

-- 1 to 8 decimal digits, and no leading 0 but in 0 itself
pub record Plain (ds : List ℕ) (n : ℕ) : Type 0 where
  pub digits : IsNumeral 10 ds
  pub short : length ds ≤ 8
  pub lead : slice_index_or ds 0 0 ≡ 48 → length ds ≡ 1
  pub says : digits_value 10 ds ≡ n

-- the digits that stand behind a minus; 0 has no minus
abbrev pub Below : List ℕ → ℤ → Type 0
Below ds (pos n) = ⊥
Below ds (negsuc n) = Plain ds (suc n)

-- an optional minus (byte 45), then such digits
abbrev pub Number : List ℕ → ℤ → Type 0
Number bs (pos n) = Plain bs n
Number bs (negsuc n) = (ds : List ℕ) × (bs ≡ 45 ∷ ds) × Below ds (negsuc n)

-- the answer of a reader of a form: the value that is written, and none where no value is
abbrev pub Exactly : {W V : Type 0} → (W → V → Type 0) → W → Option V → Type 0
Exactly Form w (Some v) = Form w v
Exactly Form w None = (v : _) → Form w v → ⊥

-- a number that 8 digits can write
abbrev pub Short : ℤ → Type 0
Short (pos n) = n < 100000000
Short (negsuc n) = suc n < 100000000
