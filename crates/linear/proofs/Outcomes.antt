-- What an accepted or refused result says of its tests.
use Rattle.std.proofs.Common.{◌≡◌, ℕ, Bool, true, false, ◌≢◌, ◌⊎◌, Ok, Err, Result, refl, inl, inr, arith}
use Rattle.records.specs.declared.refusal.Refusal.{Refusal}
use Rattle.records.specs.Outcomes.{guard, onward}

module _ {A : Type 0} where
  pub not_accepted : (e : Refusal) (a : A) → ◌≡◌ {A = Result A Refusal} (Err e) (Ok a) → ⊥
  not_accepted e a h = let z : ◌≡◌ {A = ℕ} 0 1 = cc in omega arith

  -- an accepted result passed the test
  pub passed : (b : Bool) (e : Refusal) (r : Result A Refusal) (a : A) → guard b e r ≡ Ok a → (b ≡ false) × (r ≡ Ok a)
  passed true e r a h = absurd (not_accepted e a h)
  passed false e r a h = (refl, h)

  -- a refusal is this test's, or a later one's
  pub refused_by : (b : Bool) (e : Refusal) (r : Result A Refusal) (k : Refusal) → guard b e r ≡ Err k → ((b ≡ true) × (e ≡ k)) ⊎ ((b ≡ false) × (r ≡ Err k))
  refused_by true e r k h = inl (refl, cc)
  refused_by false e r k h = inr (refl, h)

  -- a result that is not this test's refusal passed it
  pub not_by : (b : Bool) (e : Refusal) (r : Result A Refusal) → guard b e r ≢ Err e → (b ≡ false) × (guard b e r ≡ r)
  not_by true e r d = absurd (d refl)
  not_by false e r d = (refl, refl)

-- what goes on to be accepted was accepted before
pub went_on : {A B : Type 0} (r : Result A Refusal) (f : A → Result B Refusal) (b : B) → onward r f ≡ Ok b → (a : A) × (r ≡ Ok a) × (f a ≡ Ok b)
went_on (Ok a) f b h = (a, refl, h)
went_on (Err e) f b h = absurd (not_accepted e b h)
