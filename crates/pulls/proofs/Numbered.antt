-- The numbers of the relations that count, as a pull reads them.
use Rattle.std.proofs.Common.{◌≡◌, ℕ, ◌+◌, ◌≤◌, min, List, ◌++◌, length, take, drop, replicate, ap, ◌∙◌, ap₂, arith}
use lib.Seq.{take-append-le}
use Rattle.std.proofs.lemmas.List.{length-take-le, take_all}
use Rattle.records.specs.declared.relation.Relation.{Relation}
use Rattle.records.specs.declared.role.Role.{Role}
use Rattle.rules.specs.Values.{written}
use Rattle.roles.specs.Places.{places}

pub numbered : (roles W : List Role) (rs : List Relation) (b B : ℕ) → roles ≡ W → b ≡ B → B ≤ length rs → places roles (take b rs) (length (take b rs)) ≡ places W (take B rs) B
numbered roles W rs b B e f h = ap₂ (λ (r : List Role) (j : ℕ). places r (take j rs) (length (take j rs))) e f ∙ ap (places W (take B rs)) (length-take-le B rs h)

pub rows_are : (P rows : List ℕ) (M m : ℕ) → M ≡ length P → m ≡ M → m ≤ 12 → rows ≡ written (min M 12) P (replicate 12 0) → take m rows ≡ P
rows_are P rows M m e f h is =
    let b : min M 12 ≡ m = omega arith in
    ap (take m) (is ∙ ap (λ (k : ℕ). written k P (replicate 12 0)) b ∙ ap (λ (x : List ℕ). x ++ drop (0 + m) (replicate 12 0)) (take_all m P (omega arith)))
    ∙ take-append-le m P (drop (0 + m) (replicate 12 0)) (omega arith) ∙ take_all m P (omega arith)
