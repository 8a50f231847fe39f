use Rattle.std.proofs.Common.{◌≡◌, take}
use Rattle.std.specs.Str.Parse.{AllDigits, digits_value}
use Rattle.words.proofs.number.parse_digits.Given as goal

abbrev pub invariant-loop-d : goal.invariant-loop-d
invariant-loop-d l = AllDigits 10 (take l.d-index l.digits) × (l.n ≡ digits_value 10 (take l.d-index l.digits))
