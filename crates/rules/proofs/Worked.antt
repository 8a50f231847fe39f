-- The worked sheets and lists, and the mistakes, by computation.
use Rattle.std.proofs.Common.{refl}
use Rattle.whole.specs.Sums.{sum_below}
use Rattle.rules.specs.Worked.{WorkedSheets, PlacesBeyond, RefusedFirst}
use Rattle.rules.specs.Mistakes.{Limit, Rounded, Denominator}

pub worked_sheets : WorkedSheets
unfolding sum_below
worked_sheets = (refl, refl)

pub places-beyond : PlacesBeyond
unfolding sum_below
places-beyond = (refl, refl, refl, refl, refl, refl, refl, refl, refl)

pub refused_first : RefusedFirst
unfolding sum_below
refused_first = (refl, refl, refl, refl, refl, refl, refl, refl, refl, refl, refl, refl, refl, refl, refl, refl, refl)

pub limit : Limit
limit = (refl, refl, refl, refl)

pub rounded : Rounded
unfolding sum_below
rounded = (refl, refl)

pub denominator : Denominator
unfolding sum_below
denominator = (refl, refl, refl, refl)
