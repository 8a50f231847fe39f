-- Numerators in lowest terms, and the last refusals.
use Rattle.std.proofs.Common.{◌≡◌, ℕ, zero, suc, ◌*◌, ◌/◌, ◌<◌, ◌≤◌, Bool, false, cond, ◌||◌, List, [], map, length, get_or, ℤ, pos, negsuc, nat_abs, Ok, Err, Result, sym, refl, ap, ◌∙◌, subst, ap₂, mul-le-mul, mul-pos, div-le_self, arith, w64, to_z}
use native.Mathlib.Nat.{mul-div_cancel'}
use Prim.Native.Nat.{◌∣◌}
use lib.Signed.{quot_z, lt_z}
use borrow.Author.Differences.{ints}
use Rattle.std.proofs.lemmas.Bool.{le-ltb, ltb-false, or_parts}
use Rattle.std.proofs.lemmas.List.{length-map}
use Rattle.std.proofs.lemmas.Int.{to_z_pos}
use Rattle.records.specs.Outcomes.{guard}
use Rattle.records.specs.declared.refusal.Refusal.{Refusal}
use Rattle.records.specs.declared.refusal.Refusal.TheVariants.{Unfit, TooFine, OffSheet}
use Rattle.whole.specs.Lists.{coord}
use Rattle.whole.proofs.Lists.{tab-length, tab_ext}
use Rattle.rules.specs.Values.{Coords, grid}
use Rattle.rules.specs.Sheets.{bad_values, bad_denominator, unfit_values}
use Rattle.rules.specs.Pulling.{joined}
use Rattle.fractions.specs.Steps.{divisor_from}
use Rattle.fractions.specs.Settling.{all_divided, settling}
use Rattle.fractions.proofs.Quotients.{divided-above}
use Rattle.fractions.proofs.Divisors.{divisor_of_all, divisor-divides, divisor-above, divisor-≤}

-- a denominator within its limits is a natural number
natural : (d : ℤ) → bad_denominator d ≡ false → (d ≡ pos (nat_abs d)) × (1 ≤ nat_abs d) × (nat_abs d ≤ 45000)
natural d e =
    let a = or_parts (lt_z d (pos 1)) _ e in
    let low = a.0 in
    let high = a.1 in
    (by d low, omega (arith, ints), omega (arith, ints))
  where
    by : (d : ℤ) → lt_z d (pos 1) ≡ false → d ≡ pos (nat_abs d)
    by (pos n) h = refl
    by (negsuc n) h = absurd (omega (arith, ints))

-- the numerators are over ℓ × a, and h is the common divisor
module _ (size l a h : ℕ) (us : List Coords) (some : 1 ≤ l) (few : l ≤ 2147483647) (low : 1 ≤ a) (high : a ≤ 45000) (is : h ≡ divisor_from (l * a) (joined us)) where
  above-0 : 0 < h
  above-0 = subst (λ (k : ℕ). 0 < k) (sym is) (divisor-above (l * a) (joined us) (mul-pos some low))

  most : l * a ≤ 100000000000000
  most = let m : l * a ≤ 2147483647 * 45000 = mul-le-mul few high in omega arith

  divisor : (0 < h) × (h ≤ 100000000000000)
  divisor = (above-0, (let m = most in let b = divisor-≤ (l * a) (joined us) (mul-pos some low) in omega (arith, is)))

  least : 1 ≤ l * a / h
  least = by (l * a / h) (mul-div_cancel' h (subst (λ (k : ℕ). k ∣ l * a) (sym is) (divisor-divides (l * a) (joined us))))
    where
      by : (q : ℕ) → h * q ≡ l * a → 1 ≤ q
      by zero p = absurd (let b = mul-pos some low in omega arith)
      by (suc q) p = omega arith

  nums : ℕ → List Coords
  nums k = grid (length us) size (λ s c. quot_z (coord us s c) (pos k))

  finished : ℕ → Bool → Result ℤ Refusal × List Coords
  finished k fine = cond fine (Err TooFine, us) (guard (bad_values size (length us) (quot_z (pos (l * a)) (pos k)) (nums k)) OffSheet (Ok (quot_z (pos (l * a)) (pos k))), nums k)

  outcome : Bool → ℕ → Result ℤ Refusal × List Coords
  outcome bad k = cond bad (Err Unfit, us) (finished k (lt_z (pos 45000) (quot_z (pos (l * a)) (pos k))))

  same : settling size (length us) l (pos a) us ≡ finished h (lt_z (pos 45000) (pos (l * a / h)))
  unfolding outcome finished nums
  same = ap₂ outcome fine (divisor_of_all (pos (l * a)) (joined us) ∙ sym is)
    where
      fine : bad_denominator (pos a) ≡ false
      fine = ap₂ (λ (p q : Bool). p || q) (le-ltb a 1 low) (le-ltb 45000 a high)

  module _ (within : l * a / h ≤ 45000) (vs : List Coords) (new : vs ≡ all_divided size us (pos h)) (long : length vs ≡ length us) where
    lowest_is : vs ≡ grid (length us) size (λ s c. quot_z (coord us s c) (pos h))
    lowest_is = new ∙ tab_ext (length us) _ _ (λ s b. divided-above size h (get_or us s []) above-0)

    tested : unfit_values size (length us) (pos (l * a / h)) vs ≡ bad_values size (length us) (pos (l * a / h)) vs
    tested = ap₂ (λ (p q : Bool). p || q || bad_values size (length us) (pos (l * a / h)) vs) (le-ltb (length vs) (length us) (omega (arith, long))) fine
      where
        fine : bad_denominator (pos (l * a / h)) ≡ false
        fine = ap₂ (λ (p q : Bool). p || q) (le-ltb (l * a / h) 1 least) (le-ltb 45000 (l * a / h) within)

    settled_by : (b : Bool) → unfit_values size (length us) (pos (l * a / h)) vs ≡ b → (guard b OffSheet (Ok (pos (l * a / h))), vs) ≡ settling size (length us) l (pos a) us
    unfolding finished nums
    settled_by b t =
        ap₂ (λ (x : Bool) (xs : List Coords). (guard x OffSheet (Ok (pos (l * a / h))), xs)) (sym t ∙ tested ∙ ap (bad_values size (length us) (pos (l * a / h))) lowest_is) lowest_is
        ∙ sym (same ∙ ap (finished h) (le-ltb 45000 (l * a / h) within))

-- what code has: d, its size A, the common divisor H, the numerators and what they became
module _ {K : Type 0} (f : K → Coords) (size l : ℕ) (d : ℤ) (A H : ℕ) (xs : List K) (some : 1 ≤ l) (few : l ≤ 2147483647) (fine : bad_denominator d ≡ false) (a_is : A ≡ nat_abs d)
    (is : H ≡ divisor_from (l * A) (joined (map f xs))) where
  pub fitting : (0 < H) × (H ≤ 100000000000000)
  fitting = let n = natural d fine in divisor size l A H (map f xs) some few (omega (arith, a_is, n.1)) (omega (arith, a_is, n.2)) is

  pub ended : lt_z (pos 45000) (to_z w64 (l * A / H)) ≡ false → (new : List K) → map f new ≡ all_divided size (map f xs) (to_z w64 H) → (b : Bool) → b ≡ unfit_values size (length new) (to_z w64 (l * A / H)) (map f new)
      → (guard b OffSheet (Ok (to_z w64 (l * A / H))), map f new) ≡ settling size (length xs) l d (map f xs)
  ended fits new made b tested =
      let n = natural d fine in
      let low : 1 ≤ A = omega (arith, a_is, n.1) in
      let high : A ≤ 45000 = omega (arith, a_is, n.2) in
      let e = most size l A H (map f xs) some few low high is in
      let q = div-le_self (l * A) H in
      let over = to_z_pos w64 (l * A / H) (omega arith) in
      let within = ltb-false 45000 (l * A / H) (sym (ap (lt_z (pos 45000)) over) ∙ fits) in
      let list = made ∙ ap (all_divided size (map f xs)) (to_z_pos w64 H (omega (arith, fitting.1))) in
      let long : length (map f new) ≡ length (map f xs) = ap length list ∙ tab-length (length (map f xs)) _ in
      let count : length new ≡ length (map f xs) = omega (arith, long, length-map new f) in
      ap (λ (z : ℤ). (guard b OffSheet (Ok z), map f new)) over
      ∙ settled_by size l A H (map f xs) some few low high is within (map f new) list long b (sym (tested ∙ ap₂ (λ (k : ℕ) (z : ℤ). unfit_values size k z (map f new)) count over))
      ∙ ap₂ (λ (n : ℕ) (z : ℤ). settling size n l z (map f xs)) (length-map xs f) (ap pos a_is ∙ sym n.0)
