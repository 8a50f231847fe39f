use Rattle.std.proofs.Common.{◌≡◌, ◌++◌, map, drop, vec_items}
use Rattle.calls.specs.Shown.{reply_of}
use Rattle.runner.proofs.Answering.{texts}
use Rattle.runner.proofs.playing.put_answers.Given as goal

-- what is written and what is still to be written make up the whole
abbrev pub invariant-loop-made : goal.invariant-loop-made
invariant-loop-made g l =
    vec_items l.initial.out ++ texts l.made (map (reply_of g.K.Kind.coords) l.initial.answers.rest.now)
    ≡ vec_items l.out ++ texts (drop l.made-index l.made) (map (reply_of g.K.Kind.coords) l.answers.rest.now)
