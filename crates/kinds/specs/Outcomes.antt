-- What a kind's promises give back, by coordinates.
use Rattle.std.specs.Prelude.{ℕ, zero, suc, ◌^◌, Bool, true, false, cond, not, ◌||◌, List, length, ℤ, pos, negsuc, ◌+ℤ◌, ◌*ℤ◌, Ok, Err, Result, nat_lt, slice_set}
use Rattle.std.specs.Int.Signed.{mag}
use Rattle.records.specs.declared.refusal.Refusal.{Refusal}
use Rattle.records.specs.declared.refusal.Refusal.TheVariants.{NoCoordinate, DoesNotFit}
use Rattle.whole.specs.Lists.{at}
use Rattle.whole.specs.Tests.{any}
use Rattle.kinds.specs.Coords.{plus_scaled}

-- z is from -2^63 to 2^63 - 1: `mag` is z itself, and -z - 1 below 0.
abbrev pub fits64 : ℤ → Bool
fits64 z = nat_lt (mag z) (2 ^ 63)

-- k is 0 or -1.
abbrev pub is_unit : ℤ → Bool
is_unit (pos zero) = true
is_unit (pos (suc n)) = false
is_unit (negsuc zero) = true
is_unit (negsuc (suc n)) = false

-- The product k × v, or the sum u + k × v, does not fit 64 signed bits.
abbrev pub misfit : ℤ → ℤ → ℤ → Bool
misfit u k v = not (fits64 (k *ℤ v)) || not (fits64 (u +ℤ k *ℤ v))

-- At each coordinate u + k × v fits.
abbrev pub all_fit : List ℤ → ℤ → List ℤ → Bool
all_fit us k vs = not (any (length us) (λ c. misfit (at us c) k (at vs c)))

-- Coordinate k, if there is one.
abbrev pub read_at : List ℤ → ℕ → Result ℤ Refusal
read_at us k = cond (nat_lt k (length us)) (Ok (at us k)) (Err NoCoordinate)

-- The same coordinates with x at k, if there is a coordinate k.
abbrev pub put_at : List ℤ → ℕ → ℤ → Result (List ℤ) Refusal
put_at us k x = cond (nat_lt k (length us)) (Ok (slice_set us k x)) (Err NoCoordinate)

-- u + k × v by coordinates, if each fits.
abbrev pub combined : List ℤ → ℤ → List ℤ → Result (List ℤ) Refusal
combined us k vs = cond (all_fit us k vs) (Ok (plus_scaled us k vs)) (Err DoesNotFit)

-- u + k × v at one coordinate, if it fits.
abbrev pub fused_at : ℤ → ℤ → ℤ → Result ℤ Refusal
fused_at u k v = cond (misfit u k v) (Err DoesNotFit) (Ok (u +ℤ k *ℤ v))
