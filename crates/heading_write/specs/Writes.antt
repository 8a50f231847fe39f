-- What writing a heading leaves, and the two ways back.
use Rattle.std.specs.Prelude.{◌≡◌, ℕ, ◌<◌, ◌≤◌, List, [], ◌∷◌, ◌++◌, length, take, drop, Ok, Err, vec_items, Result, Vec}
use Rattle.words.specs.declared.fault.Fault.{Fault}
use Rattle.words.specs.declared.fault.Fault.TheVariants.{Memory}
use Rattle.words.specs.Faults.{Refuses}
use Rattle.words.specs.Words.{joined_by}
use Rattle.heading.specs.declared.kind.KindWord.{KindWord}
use Rattle.heading.specs.declared.read.Heading.{Heading}
use Rattle.heading.specs.Headings.{kind_word, Headed, names_of}

-- the kind's word and the words, with one space between each two, then byte 10
abbrev pub HeadingBytes : {G : Type 0} → KindWord → List (List ℕ) → Result (Vec ℕ G) Fault → Type 0
HeadingBytes kind names (Ok text) = vec_items text ≡ joined_by 32 (kind_word kind ∷ names) ++ 10 ∷ []
HeadingBytes kind names (Err e) = e ≡ Memory

-- the heading's bytes stand at the front of the list and the rest is as it was; or the list is as it was, and no heading says this or the list is too short for it
abbrev pub HeadingWritten : KindWord → List (List ℕ) → List ℕ → List ℕ → Result ℕ Fault → Type 0
HeadingWritten kind names before after (Ok n) = Headed (take n after) kind names × (drop n after ≡ drop n before) × (n ≤ length before)
HeadingWritten kind names before after (Err e) = (after ≡ before) × Refuses e ((bs : List ℕ) → Headed bs kind names → length before < length bs)

-- bytes say one thing at most
abbrev pub OneReading : Type 0
OneReading = (bs : List ℕ) (j k : KindWord) (ms ns : List (List ℕ)) → Headed bs j ms → Headed bs k ns → (j ≡ k) × (ms ≡ ns)

-- a thing has one spelling at most
abbrev pub OneSpelling : Type 0
OneSpelling = (bs cs : List ℕ) (kind : KindWord) (names : List (List ℕ)) → Headed bs kind names → Headed cs kind names → bs ≡ cs

-- read and written back, a heading has the same bytes; refused only where the bytes spell none or the list is too short for them
abbrev pub Copied : List ℕ → List ℕ → List ℕ → Result ℕ Fault → Type 0
Copied line before after (Ok n) = ((kind : KindWord) × (names : List (List ℕ)) × Headed line kind names) × (take n after ≡ line) × (drop n after ≡ drop n before) × (n ≤ length before)
Copied line before after (Err e) = (after ≡ before) × Refuses e ((kind : KindWord) (names : List (List ℕ)) → Headed line kind names → length before < length line)

-- written and read back, a heading says the same; refused only where no spelling of it fits the list
abbrev pub Reread : KindWord → List (List ℕ) → List ℕ → Result Heading Fault → Type 0
Reread kind names before (Ok h) = (h.kind ≡ kind) × (names_of h ≡ names)
Reread kind names before (Err e) = Refuses e ((bs : List ℕ) → Headed bs kind names → length before < length bs)
