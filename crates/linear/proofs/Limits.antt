-- The limit on the numbers of a table.
use Rattle.std.proofs.Common.{◌≡◌, ℕ, zero, suc, ◌+◌, ◌*◌, ◌<◌, ◌≤◌, false, ◌-ℤ◌, ◌*ℤ◌, nat_abs, Ok, Result, ap, ◌∙◌, arith}
use Rattle.records.specs.declared.refusal.Refusal.{Refusal}
use Rattle.records.specs.declared.refusal.Refusal.TheVariants.{TableTooLarge}
use Rattle.whole.specs.Tests.{any, above}
use Rattle.whole.proofs.Tests.{any_false, above_false}
use Rattle.whole.proofs.Sizes.{product-≤, nat_abs--}
use Rattle.linear.specs.Elimination.{Grid, entry, step, table_limit, beyond, within_limit, eliminated}
use Rattle.linear.specs.Theorems.{Accepted, Room}
use Rattle.linear.proofs.Outcomes.{passed, went_on}

-- an accepted table is the one that was tested, and within the limit
within : (m : ℕ) (t u : Grid) → within_limit m t ≡ Ok u → (u ≡ t) × (beyond m u ≡ false)
within m t u h = let p = passed (beyond m t) TableTooLarge (Ok t) u h in same p.1 p.0
  where
    same : ◌≡◌ {A = Result Grid Refusal} (Ok t) (Ok u) → beyond m t ≡ false → (u ≡ t) × (beyond m u ≡ false)
    same e b = let q : u ≡ t = cc in (q, ap (beyond m) q ∙ b)

pub accepted : Accepted
accepted m zero t u h = within m t u h
accepted m (suc k) t u h =
    let g = went_on (eliminated m k t) (λ u. within_limit m (step m k u)) u h in
    let a = accepted m k t g.0 g.1 in
    let b = within m (step m k g.0) u g.2 in
    (b.0 ∙ ap (step m k) a.0, b.1)

-- each number of a table within the limit
pub entry-≤ : (m : ℕ) (t : Grid) → beyond m t ≡ false → (i j : ℕ) → i < m → j < m + m → nat_abs (entry t i j) ≤ table_limit
entry-≤ m t h i j l b =
    above_false table_limit (entry t i j)
    (any_false (m + m) (λ j. above table_limit (entry t i j)) (any_false m (λ i. any (m + m) (λ j. above table_limit (entry t i j))) h i l) j b)

pub room : Room
room m t h k i j kl il jl = (most, omega arith)
  where
    most : nat_abs (entry t k k *ℤ entry t i j -ℤ entry t i k *ℤ entry t k j) ≤ 2 * (table_limit * table_limit)
    most =
        let a = product-≤ (entry t k k) (entry t i j) table_limit table_limit (entry-≤ m t h k k kl (omega arith)) (entry-≤ m t h i j il jl) in
        let b = product-≤ (entry t i k) (entry t k j) table_limit table_limit (entry-≤ m t h i k il (omega arith)) (entry-≤ m t h k j kl jl) in
        omega (arith, nat_abs-- (entry t k k *ℤ entry t i j) (entry t i k *ℤ entry t k j))
