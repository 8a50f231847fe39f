-- What a card prints.
use Rattle.std.specs.Prelude.{◌≡◌, ℕ, ◌<◌, ◌≤◌, ◌⊎◌, Bool, true, false, is_some, List, [], ◌∷◌, ◌++◌, map, length, codes, Ok, Err, Option, Result, Vec, vec_items}
use Rattle.words.specs.declared.fault.Fault.{Fault}
use Rattle.words.specs.declared.fault.Fault.TheVariants.{Form, Memory}
use Rattle.words.specs.Lines.{lines, joined}
use Rattle.forms.specs.Rows.{Each}
use Rattle.forms.specs.Values.{LengthForm, PointForm}
use Rattle.kinds.specs.Models.{length_coords, point_coords}
use Rattle.heading.specs.declared.kind.KindWord.{KindWord}
use Rattle.heading.specs.declared.kind.KindWord.TheVariants.{Length, Point}
use Rattle.heading.specs.Headings.{Headed}
use Rattle.records.specs.declared.refusal.Refusal.TheVariants as refusal
use Rattle.rules.specs.Values.{Coords}
use Rattle.rules.specs.Sheets.{Sheet}
use Rattle.rules.specs.Pulling.{Placing}
use Rattle.rules.specs.Calls.{opening}
use Rattle.rules.specs.Runs.{Call, Reply}
use Rattle.law.specs.Run.{Run}
use Rattle.scripts.specs.Scripts.{Asks, made}
use Rattle.steps.specs.Lists.{by_parameter}
use Rattle.desk.specs.Desks.{fresh}
use Rattle.answers.specs.Texts.{answer_text}

-- the answers in the order of the lines: 16 to a line that asks for no call, and to one that asks for a call what that call gave back; a run has a reply to each call, so that none is missing
abbrev pub answered : List Bool → List Reply → List Reply
answered [] replies = []
answered (false ∷ asks) replies = Err refusal.Form ∷ answered asks replies
answered (true ∷ asks) [] = Err refusal.Form ∷ answered asks []
answered (true ∷ asks) (reply ∷ replies) = reply ∷ answered asks replies

-- What the lines after the first print, on a sheet of `count` values of a kind: the calls that they ask for are a run on the sheet just opened, by which the law holds, and
-- there is a line for each answer.
pub record Played {V : Type 0} (form : List ℕ → V → Type 0) (size : ℕ) (f : V → Coords) (count : ℕ) (ls : List (List ℕ)) (text : List ℕ) : Type 0 where
  pub asks : List (Option Call)
  pub each : Each (Asks form f count) ls asks
  pub sheet : Sheet
  pub opened : (opening size count (by_parameter size)).0 ≡ Ok sheet
  pub replies : List Reply
  pub end : Placing
  pub run : Run size count (fresh size count sheet) (made asks) replies end
  pub text_is : text ≡ joined (map answer_text (answered (map is_some asks) replies))

-- by the kind that the first line names
abbrev pub PlayedOn : KindWord → ℕ → List (List ℕ) → List ℕ → Type 0
PlayedOn Length count ls text = Played LengthForm 1 length_coords count ls text
PlayedOn Point count ls text = Played PointForm 2 point_coords count ls text

-- a card of 65,536 bytes at most whose first line is good: the answers to its other lines, and `end`
pub record Ran (card text : List ℕ) : Type 0 where
  pub short : length card ≤ 65536
  pub first : List ℕ
  pub others : List (List ℕ)
  pub cut : lines card ≡ first ∷ others
  pub kind : KindWord
  pub names : List (List ℕ)
  pub headed : Headed first kind names
  pub answers : List ℕ
  pub played : PlayedOn kind (length names) others answers
  pub text_is : text ≡ answers ++ codes "end\n"

-- any other card: only `no 16` and `end`
pub record Barred (card text : List ℕ) : Type 0 where
  pub bad : (65536 < length card) ⊎ ((first : List ℕ) (others : List (List ℕ)) (kind : KindWord) (names : List (List ℕ)) → lines card ≡ first ∷ others → Headed first kind names → ⊥)
  pub text_is : text ≡ codes "no 16\nend\n"

-- what a card prints, unless there is no memory for it
abbrev pub Prints : {G : Type 0} → List ℕ → Result (Vec ℕ G) Fault → Type 0
Prints card (Ok text) = Ran card (vec_items text) ⊎ Barred card (vec_items text)
Prints card (Err Form) = ⊥
Prints card (Err Memory) = Unit {0}

-- a text of the form was appended, unless there was no memory for it
abbrev pub Appended : (List ℕ → Type 0) → List ℕ → List ℕ → Result (Unit {0}) Fault → Type 0
Appended Text before after (Ok x) = (text : List ℕ) × (after ≡ before ++ text) × Text text
Appended Text before after (Err e) = e ≡ Memory
