use Rattle.std.proofs.lemmas.Result.{IfOk-weaker}
use Rattle.eval_rules.proofs.Watching.{applied}
use Rattle.eval_rules.proofs.steps.apply.Goals as goal

pub returns-clause-scene : goal.returns-clause-scene
returns-clause-scene g c =
    IfOk-weaker c.apply_watched.result _ _
    (λ on h. applied (λ w happening s. w) (g.K.Knowledge.known c.args.knowledge.now) c.args.rule.now c.args.scene.now c.apply_watched.new.scene _ _ on h)
    c.apply_watched.ensures.watch
