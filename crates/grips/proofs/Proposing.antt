-- What a pull gave, by what the arithmetic of a pull gave.
use Rattle.std.proofs.Common.{◌≡◌, ℕ, zero, suc, ◌<◌, ◌≤◌, List, [], ◌∷◌, map, length, get_or, ℤ, Result, sym, ap, subst, not-suc-le-zero, arith}
use Rattle.records.specs.declared.refusal.Refusal.{Refusal}
use Rattle.records.specs.declared.relation.Relation.{Relation}
use Rattle.records.specs.Outcomes.{image}
use Rattle.rules.specs.Limits.{most_relations}
use Rattle.rules.specs.Values.{Coords}
use Rattle.rules.specs.Sheets.{Sheet, Workings}
use Rattle.rules.specs.Calls.{Pulled, pulling}
use Rattle.rules.specs.Runs.{told}
use Rattle.law.specs.Facts.{PulledRightly}
use Rattle.law.proofs.Pulled.{pulls_rightly}
use Rattle.grips.specs.Shown.{handing_back}

-- every value of a list of a kind has as many coordinates as the kind counts
sized-values : {K : Type 0} (f : K → Coords) (size : ℕ) → ((v : K) → length (f v) ≡ size) → (vs : List K) (i : ℕ) → i < length (map f vs) → length (get_or (map f vs) i []) ≡ size
sized-values f size h [] i l = absurd (not-suc-le-zero l)
sized-values f size h (v ∷ vs) zero l = h v
sized-values f size h (v ∷ vs) (suc i) l = sized-values f size h vs i (omega arith)

abbrev with_sheet : Sheet → ℤ → Sheet × ℤ
with_sheet s d = (s, d)

-- what a pull gave, as the rules have it
pub record Gave (size : ℕ) (s : Sheet) (vs : List Coords) (rs : List Relation) (qs : List Coords) (w : Workings) (wishes proposal working : List Coords) (r : Result ℤ Refusal) (after cleared : List Coords) : Type 0 where
  pub result : handing_back s (image (with_sheet s) r) ≡ handing_back s (image (with_sheet s) (pulling size s vs rs qs w wishes proposal working).0)
  pub proposal_is : after ≡ (pulling size s vs rs qs w wishes proposal working).1
  pub working_is : cleared ≡ (pulling size s vs rs qs w wishes proposal working).2
  pub rightly : PulledRightly size s vs rs qs w wishes (told s.count after r)

pub gave : {K : Type 0} (f : K → Coords) (size : ℕ) → ((v : K) → length (f v) ≡ size) → (s : Sheet) → s.bound ≤ most_relations → (vs : List K) (rs : List Relation) (qs : List Coords) (w : Workings) (wishes proposal working : List Coords)
    (r : Result ℤ Refusal) (after cleared : List Coords) → (r, after, cleared) ≡ pulling size s (map f vs) rs qs w wishes proposal working → Gave size s (map f vs) rs qs w wishes proposal working r after cleared
gave f size sized s few vs rs qs w wishes proposal working r after cleared e = record {
  result = ap (λ (P : Pulled). handing_back s (image (with_sheet s) P.0)) e;
  proposal_is = ap (λ (P : Pulled). P.1) e;
  working_is = ap (λ (P : Pulled). P.2) e;
  rightly = subst (λ (P : Pulled). PulledRightly size s (map f vs) rs qs w wishes (told s.count P.1 P.0)) (sym e)
      (pulls_rightly size s (map f vs) rs qs w wishes proposal working few (sized-values f size sized vs));
}
