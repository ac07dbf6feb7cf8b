use Rattle.std.proofs.Common.{◌≡◌, None, length}
use Rattle.eval_rules.specs.Watched.{run_watched}
use Rattle.eval_rules.proofs.rules.run_watched.Given as goal

abbrev pub invariant-loop-rule : goal.invariant-loop-rule
invariant-loop-rule g l = run_watched g.W.Watch.telling (g.K.Knowledge.known l.knowledge) None l.rest (l.scene, l.watch) ≡ run_watched g.W.Watch.telling (g.K.Knowledge.known l.fn.knowledge) None l.fn.rules (l.fn.scene, l.fn.watch)

abbrev pub decreases-loop-rule : goal.decreases-loop-rule
decreases-loop-rule g l = length l.rest
