use Rattle.series.proofs.Turns.{Turn}
use Rattle.series.proofs.running.run.Given as goal

abbrev pub invariant-loop-call : goal.invariant-loop-call
invariant-loop-call g l = Turn g.K.Kind.size g.K.Kind.coords l.count l.calls l.call-index l.answers l.desk
