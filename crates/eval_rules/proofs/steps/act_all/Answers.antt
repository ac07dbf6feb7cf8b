use Rattle.std.proofs.Common.{◌∙◌}
use Rattle.eval_acts.specs.Acts.{act_step}
use Rattle.eval_rules.specs.Watched.{acted, told}
use Rattle.eval_rules.proofs.Walks.{walk_on, walk_stop, walk_end}
use Rattle.eval_rules.proofs.Watching.{told_is}
use Rattle.eval_rules.proofs.steps.act_all.Goals as goal

pub returns-then-not-branch-clause-watch : goal.returns-then-not-branch-clause-watch
returns-then-not-branch-clause-watch g c =
    walk_stop (told g.W.Watch.telling (acted c.args.rule.now) (act_step (g.K.Knowledge.known c.args.knowledge.now) c.args.rule.now)) c.args.parts.now c.loop-part.part-index c.part-item.result
    (c.loop-part.scene, c.loop-part.watch) (c.act.new.scene, c.act.new.self) c.in_ok-act.field-0 c.loop-part-test.true c.part-item.is
    (told_is g.W.Watch.telling (g.K.Knowledge.known c.args.knowledge.now) (acted c.args.rule.now) (act_step (g.K.Knowledge.known c.args.knowledge.now) c.args.rule.now) c.part-item.result c.loop-part.scene c.act.new.scene
    c.loop-part.watch c.act.new.self c.in_ok-act.field-0 c.in_ok-act.ensures.scene c.in_ok-act.ensures.watch)
    c.if-not-branch.true
    ∙ c.loop-part.invariant.walks

pub loop-part-preserved : goal.loop-part-preserved
loop-part-preserved g c = record {
  walks =
      walk_on (told g.W.Watch.telling (acted c.args.rule.now) (act_step (g.K.Knowledge.known c.args.knowledge.now) c.args.rule.now)) c.args.parts.now c.loop-part.part-index c.part-item.result
      (c.loop-part.scene, c.loop-part.watch) (c.act.new.scene, c.act.new.self) c.in_ok-act.field-0 c.loop-part-test.true c.part-item.is
      (told_is g.W.Watch.telling (g.K.Knowledge.known c.args.knowledge.now) (acted c.args.rule.now) (act_step (g.K.Knowledge.known c.args.knowledge.now) c.args.rule.now) c.part-item.result c.loop-part.scene c.act.new.scene
      c.loop-part.watch c.act.new.self c.in_ok-act.field-0 c.in_ok-act.ensures.scene c.in_ok-act.ensures.watch)
      c.if-not-branch.false
      ∙ c.loop-part.invariant.walks;
  event = c.act.ensures.event ∙ c.loop-part.invariant.event;
}

pub returns-clause-watch : goal.returns-clause-watch
returns-clause-watch g c =
    walk_end (told g.W.Watch.telling (acted c.args.rule.now) (act_step (g.K.Knowledge.known c.args.knowledge.now) c.args.rule.now)) c.args.parts.now c.loop-part.part-index (c.loop-part.scene, c.loop-part.watch) c.loop-part-test.false
    ∙ c.loop-part.invariant.walks
