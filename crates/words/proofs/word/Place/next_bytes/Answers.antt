use Rattle.std.proofs.Common.{◌-◌, ◌+◌, length, drop, refl, ap, ◌∙◌, arith, length-drop}
use Rattle.std.proofs.lemmas.List.{take_all}
use Rattle.words.specs.Reading.{words_of}
use Rattle.words.proofs.Cuts.{first_piece, only_piece}
use Rattle.words.proofs.word.Place.next_bytes.Goals as goal

pub returns-in-Some : goal.returns-in-Some
returns-in-Some c =
    let rest = c.in_ok-rest.rest.now in
    let behind = take_all (length rest - (c.in-Some.end + 1)) (drop (c.in-Some.end + 1) rest) (omega (arith, length-drop (c.in-Some.end + 1) rest)) in
    (rw behind (ap words_of c.in_ok-rest.was ∙ first_piece 32 rest c.in-Some.end (cc)), refl)

pub returns-in-None : goal.returns-in-None
returns-in-None c = (ap words_of c.in_ok-rest.was ∙ only_piece 32 _ (cc), refl)
