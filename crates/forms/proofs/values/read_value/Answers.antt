use Rattle.std.proofs.Common.{rules}
use Rattle.forms.specs.Leads.{value_read}
use Rattle.forms.proofs.values.read_value.Goals as goal

pub returns : goal.returns
returns g c = let h = c.in_ok-word.ensures in search (rules, value_read)
