-- The number that stands for each refusal.
use Rattle.std.specs.Prelude.{ℕ}
use Rattle.records.specs.declared.refusal.Refusal.{Refusal}
use Rattle.records.specs.declared.refusal.Refusal.TheVariants.{Unfit, Count, Full, Coefficients, Constant, Untrue, NoRelation, Roles, Crowded, TableTooLarge, WishTooFar, GapTooLarge, Impossible, TooFine, OffSheet, Form, NoCoordinate, DoesNotFit, NotOpen}

abbrev pub number_of : Refusal → ℕ
number_of Unfit = 1
number_of Count = 2
number_of Full = 3
number_of Coefficients = 4
number_of Constant = 5
number_of Untrue = 6
number_of NoRelation = 7
number_of Roles = 8
number_of Crowded = 9
number_of TableTooLarge = 10
number_of WishTooFar = 11
number_of GapTooLarge = 12
number_of Impossible = 13
number_of TooFine = 14
number_of OffSheet = 15
number_of Form = 16
number_of NoCoordinate = 17
number_of DoesNotFit = 18
number_of NotOpen = 19
