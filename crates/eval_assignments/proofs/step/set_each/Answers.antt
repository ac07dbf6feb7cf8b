use Rattle.std.proofs.Common.{◌≡◌, ◌+◌, ◌∙◌, List, ap, drop, fold, sym}
use Rattle.std.proofs.lemmas.List.{drop_more}
use Rattle.rule_types.specs.declared.part.Assignment.{Assignment}
use Rattle.rule_types.specs.Rules.{Rule}
use Rattle.eval_state.specs.declared.scene.Scene.{Scene}
use Rattle.eval_assignments.specs.Steps.{set_step}
use Rattle.eval_assignments.proofs.Staying.{set_stays}
use Rattle.eval_assignments.proofs.step.set_each.Goals as goal

pub loop-assignment-preserved : goal.loop-assignment-preserved
loop-assignment-preserved c =
    let rule : Rule = c.args.rule.now in
    let sets : List Assignment = c.deref-assignment-items.result.now in
    let rest : List Assignment = drop (c.loop-assignment.assignment-index + 1) sets in
    let s : Scene = c.loop-assignment.scene in
    let made : c.set_open.new.scene ≡ set_step rule s c.assignment-item.result = c.in_ok-set_open.ensures.scene in
    record {
      folds =
          ap (λ (t : Scene). fold (set_step rule) t rest) made
          ∙ ap (λ (a : Assignment). fold (set_step rule) (set_step rule s a) rest) c.assignment-item.is
          ∙ sym (ap (fold (set_step rule) s) (drop_more sets c.loop-assignment.assignment-index c.assignment-item.result c.loop-assignment-test.true))
          ∙ c.loop-assignment.invariant.folds;
      event = ap (λ (t : Scene). t.state.event) made ∙ set_stays rule c.assignment-item.result s ∙ c.loop-assignment.invariant.event;
    }
