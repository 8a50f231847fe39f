-- The code's workings as the rules have them.
use Rattle.std.specs.Prelude.{take}
use Rattle.rules.specs.Sheets as rules
use Rattle.table.specs.Tables.{grid}
use Rattle.workings.specs.declared.workings.Workings.{Workings}

abbrev pub shown : Workings → rules.Workings
shown w = record {
  count = w.count;
  m = w.m;
  table = grid w.m w.table;
  roles = take w.count w.roles;
  shares = take w.count w.shares;
}
