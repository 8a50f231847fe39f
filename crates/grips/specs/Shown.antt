-- The code's grips and what its calls give back, as the rules have them.
use Rattle.std.specs.Prelude.{◌≡◌, ℕ, ◌<◌, true, ◌↔◌, List, take, ℤ, Ok, Err, Result, slice_index_or}
use Rattle.law.specs.Facts.{Combination}
use Rattle.records.specs.declared.relation.Mark.TheVariants.{Spare}
use Rattle.records.specs.declared.role.Role.{Role}
use Rattle.rules.specs.Gripping.{counts, counted}
use Rattle.records.specs.declared.refusal.Refusal.{Refusal}
use Rattle.rules.specs.Sheets as rules
use Rattle.sheets.specs.declared.record.Sheet.{Sheet}
use Rattle.sheets.specs.Shown.{numbers}
use Rattle.records.specs.declared.relation.Relation.{Relation}
use Rattle.rules.specs.Values.{Coords}
use Rattle.rules.specs.Calls.{Listed, spare_numbers}
use Rattle.rules.specs.Runs.{placing, Reply}
use Rattle.workings.specs.Shown.{shown}
use Rattle.grips.specs.declared.taking.Gripped.{Gripped}
use Rattle.grips.specs.declared.token.Grip.{Grip}
use Rattle.grips.specs.declared.token.Proposed.{Proposed}
use Rattle.grips.specs.declared.token.Unproposed.{Unproposed}
use Rattle.grips.specs.declared.token.Refused.{Refused}

-- The sheet that is gripped.
abbrev pub gripped_sheet : {P : Type 0} → Grip P → rules.Sheet
gripped_sheet g = numbers g.sheet

-- A refusal hands the sheet back.
abbrev pub handing_back : {A : Type 0} → rules.Sheet → Result A Refusal → Result A (rules.Sheet × Refusal)
handing_back s (Ok a) = Ok a
handing_back s (Err e) = Err (s, e)

-- The earlier relations that count imply relation i for the loose parameters.
abbrev pub Implied : rules.Sheet → List Relation → List Coords → List Role → ℕ → Type 0
Implied s rs qs roles i =
    let n = s.count in
    let ρ = take n roles in
    let b = slice_index_or (rules.bonds s rs qs) i rules.no_bond in
    (counts n ρ b.coefs ≡ true) × Combination n ρ (counted n ρ (take i (rules.bonds s rs qs))) b

-- What gripping gave back: the gripped sheet and its workings.
abbrev pub shown_take : Result Gripped (Refused Sheet) → Result (rules.Sheet × rules.Workings) (rules.Sheet × Refusal)
shown_take (Ok g) = Ok (gripped_sheet g.grip, shown g.workings)
shown_take (Err refused) = Err (numbers refused.back, refused.refusal)

-- The spare list after gripping: the numbers of the spare relations in its first places, or as it was.
abbrev pub SparesTold : Result Gripped (Refused Sheet) → rules.Sheet → List Relation → List Coords → List ℕ → List ℕ → Type 0
SparesTold (Ok g) s rs qs before after = Listed (spare_numbers (shown g.workings) s rs qs) g.spares before after
SparesTold (Err refused) s rs qs before after = after ≡ before

-- After an accepted grip a relation is marked spare exactly when it counts and its loose coefficients are a rational combination of those of earlier relations that count.
abbrev pub SparesRightly : Result Gripped (Refused Sheet) → rules.Sheet → List Relation → List Coords → List Role → List Relation → Type 0
SparesRightly (Ok g) s rs qs roles after = (i : ℕ) → i < s.bound → ((rules.relation_at after i).mark ≡ Spare) ↔ Implied s rs qs roles i
SparesRightly (Err refused) s rs qs roles after = Unit {0}

-- What a pull gave back: the gripped sheet and the proposal's denominator.
abbrev pub shown_pull : Result (Grip Proposed × ℤ) (Refused (Grip Unproposed)) → Result (rules.Sheet × ℤ) (rules.Sheet × Refusal)
shown_pull (Ok pulled) = Ok (gripped_sheet pulled.0, pulled.1)
shown_pull (Err refused) = Err (gripped_sheet refused.back, refused.refusal)

-- The same with the proposal that its list holds, as a reply.
abbrev pub pull_reply : ℕ → List Coords → Result (Grip Proposed × ℤ) (Refused (Grip Unproposed)) → Reply
pull_reply n proposal (Ok pulled) = Ok (placing (record { over = pulled.1; nums = take n proposal }))
pull_reply n proposal (Err refused) = Err refused.refusal

-- What a keep gave back.
abbrev pub shown_keep : {P : Type 0} → Result Sheet (Refused (Grip P)) → Result rules.Sheet (rules.Sheet × Refusal)
shown_keep (Ok s) = Ok (numbers s)
shown_keep (Err refused) = Err (gripped_sheet refused.back, refused.refusal)
