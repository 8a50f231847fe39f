use Rattle.forms.specs.Points.{point_by_number, no_point}
use Rattle.forms.proofs.point.PointWritten.parse.Goals as goal

pub returns-in-Number : goal.returns-in-Number
returns-in-Number c = point_by_number c.args.word c.in-Number.bytes c.parse_point.result c.in-Number.is c.parse_point.ensures

pub returns-in_default : goal.returns-in_default
returns-in_default c = no_point c.args.word c.in_default.not-Number
