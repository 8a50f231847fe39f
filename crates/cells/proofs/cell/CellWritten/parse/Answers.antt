use Rattle.cells.proofs.Leads.{cell-by_mark, cell-by-weight}
use Rattle.cells.proofs.cell.CellWritten.parse.Goals as goal

pub returns-in-Cell : goal.returns-in-Cell
returns-in-Cell c = cell-by_mark c.args.word c.in-Cell.bytes c.parse_mark.result c.in-Cell.is c.parse_mark.ensures

pub returns-in-Number : goal.returns-in-Number
returns-in-Number c = cell-by-weight c.args.word c.in-Number.bytes c.parse_weight.result c.in-Number.is c.parse_weight.ensures
