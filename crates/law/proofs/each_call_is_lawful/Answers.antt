use Rattle.law.proofs.Runs.{after_opening, after_call}
use Rattle.law.proofs.each_call_is_lawful.Goals as goal

pub returns : goal.returns
returns c = record { opening = after_opening; call = after_call }
