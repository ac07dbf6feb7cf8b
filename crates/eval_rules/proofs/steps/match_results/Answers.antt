use Rattle.std.proofs.Common.{◌∙◌, ap}
use Rattle.eval_state.specs.declared.scene.Scene.{Scene}
use Rattle.eval_rules.specs.Watched.{comparing, told}
use Rattle.eval_rules.specs.Steps.{result_step}
use Rattle.eval_rules.proofs.Walks.{walk_on, walk_stop, walk_end}
use Rattle.eval_rules.proofs.steps.match_results.Goals as goal

pub returns-then-not-branch-clause-watch : goal.returns-then-not-branch-clause-watch
returns-then-not-branch-clause-watch g c =
    walk_stop (told g.W.Watch.telling (λ part went. comparing c.args.rule.now part) result_step) c.args.parts.now c.loop-part.part-index c.part-item.result (c.loop-part.scene, c.loop-part.watch) (c.compare.new.scene, c.compare.new.watch) c.in_ok-compare.field-0
    c.loop-part-test.true c.part-item.is c.in_ok-compare.ensures.watch c.if-not-branch.true
    ∙ c.loop-part.invariant.walks

pub loop-part-preserved : goal.loop-part-preserved
loop-part-preserved g c = record {
  walks =
      walk_on (told g.W.Watch.telling (λ part went. comparing c.args.rule.now part) result_step) c.args.parts.now c.loop-part.part-index c.part-item.result (c.loop-part.scene, c.loop-part.watch) (c.compare.new.scene, c.compare.new.watch) c.in_ok-compare.field-0
      c.loop-part-test.true c.part-item.is c.in_ok-compare.ensures.watch c.if-not-branch.false
      ∙ c.loop-part.invariant.walks;
  event = ap (λ (s : Scene). s.state.event) c.compare.ensures.scene ∙ c.loop-part.invariant.event;
}

pub returns-clause-watch : goal.returns-clause-watch
returns-clause-watch g c = walk_end (told g.W.Watch.telling (λ part went. comparing c.args.rule.now part) result_step) c.args.parts.now c.loop-part.part-index (c.loop-part.scene, c.loop-part.watch) c.loop-part-test.false ∙ c.loop-part.invariant.walks
