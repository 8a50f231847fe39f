-- The code's sheet as the rules have it.
use Rattle.rules.specs.Sheets as rules
use Rattle.sheets.specs.declared.record.Sheet.{Sheet}

abbrev pub numbers : Sheet → rules.Sheet
numbers s = record { count = s.count; bound = s.bound; d = s.denominator }
