use Rattle.std.proofs.Common.{◌≡◌, map, drop}
use Rattle.eval_commands.specs.Inner.{answer_of}
use Rattle.eval_commands.proofs.lookups.first_answer.Given as goal

abbrev pub invariant-loop-modalias : goal.invariant-loop-modalias
invariant-loop-modalias g l =
    answer_of (g.K.Knowledge.known l.knowledge) l.request (map (λ m. m.now) (drop l.modalias-index l.modaliases))
    ≡ answer_of (g.K.Knowledge.known l.fn.knowledge) l.fn.request (map (λ m. m.now) l.fn.modaliases)
