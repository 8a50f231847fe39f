use Rattle.std.proofs.Common.{rules}
use Rattle.words.specs.Numbers.{Number}
use Rattle.words.proofs.Appends.{exactly_map}
use Rattle.forms.specs.Forms.{Says}
use Rattle.forms.specs.Values.{LengthForm}
use Rattle.forms.proofs.length.LengthWritten.parse.Goals as goal

pub returns : goal.returns
returns c =
    exactly_map (Says Number) (Says LengthForm) (λ x. record { x = x }) c.args.word c.parse.result c.map.result (search rules)
    (λ x s. record { first = s.first; sorted = s.sorted; says = s.says }) (λ v s. (v.x, record { first = s.first; sorted = s.sorted; says = s.says })) c.parse.ensures
