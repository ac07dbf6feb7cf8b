use Rattle.std.proofs.Common.{◌∙◌, ap}
use Rattle.eval_state.specs.declared.scene.Scene.{Scene}
use Rattle.eval_rules.proofs.Watching.{entered_event, on_err}
use Rattle.eval_rules.proofs.steps.leave.Goals as goal

pub returns-in_err-tell-2-clause-refused : goal.returns-in_err-tell-2-clause-refused
returns-in_err-tell-2-clause-refused g c =
    on_err c.from_residual-in_err-tell-2.result
    (ap (λ (s : Scene). s.state.event) c.tell-2.ensures.scene
    ∙ entered_event g.W.Watch.telling (g.K.Knowledge.known c.args.knowledge.now) c.args.rule.now c.tell.new.scene c.evaluate.new.scene c.tell.new.self c.evaluate.new.watch
    c.in_ok-reached.reached c.in_ok-reached.ensures.watch
    ∙ ap (λ (s : Scene). s.state.event) c.tell.ensures.scene)
