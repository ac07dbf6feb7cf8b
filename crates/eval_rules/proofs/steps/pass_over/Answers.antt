use Rattle.std.proofs.Common.{◌∙◌, ap}
use Rattle.eval_state.specs.declared.scene.Scene.{Scene}
use Rattle.eval_rules.specs.Idle.{note_all}
use Rattle.eval_rules.specs.Steps.{if_proceeding}
use Rattle.eval_rules.proofs.Watching.{skipped_is}
use Rattle.eval_rules.proofs.steps.pass_over.Goals as goal

pub returns-clause-watch : goal.returns-clause-watch
returns-clause-watch g c =
    skipped_is g.W.Watch.telling (g.K.Knowledge.known c.args.knowledge.now) c.args.rule.now c.args.scene.now c.try_rule.new.scene c.note_all.new.scene c.args.watch.now c.try_rule.new.watch c.tell_skipped.new.watch
    c.in_ok-proceeds.proceeds c.requires c.in_ok-proceeds.ensures.watch c.in_ok-tell_skipped.ensures.watch
    (c.in_ok-note_all.ensures.scene ∙ ap (λ (s : Scene). (if_proceeding (note_all c.args.rule.now) (s, c.in_ok-proceeds.proceeds)).0) c.tell_skipped.ensures.scene)
