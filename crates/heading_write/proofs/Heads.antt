-- One way to write a heading, and one way to read it.
use Rattle.std.proofs.Common.{◌≡◌, ℕ, ◌<◌, ◌≤◌, List, [], ◌∷◌, ◌++◌, length, take, Ok, Err, Result, sym, ap, ◌∙◌, subst, ⊎_elim, arith}
use Rattle.words.specs.declared.fault.Fault.{Fault}
use Rattle.words.specs.Faults.{Refuses}
use Rattle.words.specs.Lines.{Placed}
use Rattle.words.specs.Words.{joined_by, spaced}
use Rattle.words.proofs.Appends.{refuses_map}
use Rattle.words.proofs.Cuts.{joined-spaced}
use Rattle.heading.specs.declared.kind.KindWord.{KindWord}
use Rattle.heading.specs.declared.read.Heading.{Heading}
use Rattle.heading.specs.Names.{Names}
use Rattle.heading.specs.Headings.{kind_word, kind_laws, Headed, names_of, HeadingRead}
use Rattle.heading.proofs.Heads.{headed_words}
use Rattle.heading_write.specs.Writes.{HeadingWritten, OneReading, OneSpelling, Reread}

pub heading_joined : (kind : KindWord) (names : List (List ℕ)) (t₀ t₁ t₂ t₃ : List ℕ) → t₀ ≡ [] → t₁ ≡ t₀ ++ kind_word kind → t₂ ≡ t₁ ++ spaced names → t₃ ≡ t₂ ++ 10 ∷ [] → t₃ ≡ joined_by 32 (kind_word kind ∷ names) ++ 10 ∷ []
heading_joined kind names t₀ t₁ t₂ t₃ none a b d =
    d ∙ ap (λ t. t ++ 10 ∷ []) (b ∙ ap (λ t. t ++ spaced names) (a ∙ ap (λ t. t ++ kind_word kind) none) ∙ sym (joined-spaced (kind_word kind) names))

pub one_spelling : OneSpelling
one_spelling bs cs kind names p q = p.joined ∙ sym q.joined

pub one_reading : OneReading
one_reading bs j k ms ns p q =
    let text = joined_by 32 (kind_word j ∷ ms) in
    let P : List ℕ → Type 0 = λ b. Headed b j ms in
    let Q : List ℕ → Type 0 = λ b. Headed b k ns in
    let all : (kind_word j ∷ ms) ≡ (kind_word k ∷ ns) = sym (headed_words text j ms (subst P p.joined p)) ∙ headed_words text k ns (subst Q p.joined q) in
    let word : kind_word j ≡ kind_word k = cc in
    let rest : ms ≡ ns = cc in
    (kind_laws.once j k word, rest)

module _ (kind : KindWord) (names : List (List ℕ)) where
  pub written : (line before after : List ℕ) (r : Result ℕ Fault) → Names names → line ≡ joined_by 32 (kind_word kind ∷ names) ++ 10 ∷ [] → Placed line before after r → HeadingWritten kind names before after r
  written line before after (Ok n) good w p = (record { good = good; joined = p.0 ∙ w; short = subst (λ b. length b ≤ 1024) (sym p.0) p.3 }, p.1, p.2)
  written line before after (Err e) good w p =
      let P : Fault → Type 0 = λ y. Refuses y ((bs : List ℕ) → Headed bs kind names → length before < length bs) in
      (p.0, subst P (sym p.1) (λ bs q. let same = ap length (q.joined ∙ sym w) in ⊎_elim (λ l. absurd (omega (arith, q.short))) (λ l. omega arith) p.2))

  pub reread : (before after : List ℕ) (n : ℕ) (r : Result Heading Fault) → HeadingWritten kind names before after (Ok n) → HeadingRead (take n after) r → Reread kind names before r
  reread before after n (Ok h) p q = one_reading (take n after) h.kind kind (names_of h) names q p.0
  reread before after n (Err x) p q = refuses_map x _ _ (λ no bs b. absurd (no kind names p.0)) q
