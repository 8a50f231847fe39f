-- What a card prints for an answer.
use Rattle.std.specs.Prelude.{ℕ, List, [], ◌∷◌, ◌++◌, map, Ok, Err, codes, decimal}
use Rattle.std.specs.Fmt.{signed_decimal}
use Rattle.words.specs.Words.{joined_by, spaced}
use Rattle.records.specs.Numbers.{number_of}
use Rattle.rules.specs.Values.{Coords}
use Rattle.rules.specs.Runs.{Given, nothing, spares, placing, Reply}

-- a value: its coordinates, joined by commas (byte 44)
abbrev pub value_text : Coords → List ℕ
value_text cs = joined_by 44 (map signed_decimal cs)

-- what an accepted call gave back: the spare numbers, or the denominator and the numerators
abbrev pub given_words : Given → List (List ℕ)
given_words nothing = []
given_words (spares ns) = map decimal ns
given_words (placing p) = signed_decimal p.over ∷ map value_text p.nums

-- the line of an answer, with its byte 10
abbrev pub answer_text : Reply → List ℕ
answer_text (Ok g) = codes "ok" ++ spaced (given_words g) ++ 10 ∷ []
answer_text (Err e) = codes "no " ++ decimal (number_of e) ++ 10 ∷ []
