use Rattle.std.proofs.Common.{◌∙◌}
use Rattle.eval_rules.specs.Watched.{meeting, told}
use Rattle.eval_rules.specs.Steps.{plain_step}
use Rattle.eval_rules.proofs.Walks.{walk_on, walk_stop, walk_end}
use Rattle.eval_rules.proofs.steps.match_event.Goals as goal

pub returns-then-not-branch-clause-watch : goal.returns-then-not-branch-clause-watch
returns-then-not-branch-clause-watch g c =
    walk_stop (told g.W.Watch.telling (λ part went. meeting c.args.rule.now part) (plain_step c.args.rule.now)) c.args.parts.now c.loop-part.part-index c.part-item.result (c.loop-part.scene, c.loop-part.watch) (c.meet.new.scene, c.meet.new.watch) c.in_ok-meet.field-0
    c.loop-part-test.true c.part-item.is c.in_ok-meet.ensures.watch c.if-not-branch.true
    ∙ c.loop-part.invariant.walks

pub loop-part-preserved : goal.loop-part-preserved
loop-part-preserved g c = record {
  walks =
      walk_on (told g.W.Watch.telling (λ part went. meeting c.args.rule.now part) (plain_step c.args.rule.now)) c.args.parts.now c.loop-part.part-index c.part-item.result (c.loop-part.scene, c.loop-part.watch) (c.meet.new.scene, c.meet.new.watch) c.in_ok-meet.field-0
      c.loop-part-test.true c.part-item.is c.in_ok-meet.ensures.watch c.if-not-branch.false
      ∙ c.loop-part.invariant.walks;
  event = c.meet.ensures.event ∙ c.loop-part.invariant.event;
}

pub returns-clause-watch : goal.returns-clause-watch
returns-clause-watch g c = walk_end (told g.W.Watch.telling (λ part went. meeting c.args.rule.now part) (plain_step c.args.rule.now)) c.args.parts.now c.loop-part.part-index (c.loop-part.scene, c.loop-part.watch) c.loop-part-test.false ∙ c.loop-part.invariant.walks
