use Rattle.std.proofs.Common.{◌≡◌, ◌+◌, ◌∙◌, List, ap, drop, fold, sym}
use Rattle.std.proofs.lemmas.List.{drop_more}
use Rattle.rule_types.specs.declared.part.Assignment.{Assignment}
use Rattle.rule_types.specs.Rules.{Rule}
use Rattle.eval_state.specs.declared.scene.Scene.{Scene}
use Rattle.eval_rules.specs.Idle.{note_step}
use Rattle.eval_rules.proofs.Staying.{note_stays}
use Rattle.eval_rules.proofs.idle.note_each.Goals as goal

pub loop-assignment-preserved : goal.loop-assignment-preserved
loop-assignment-preserved c =
    let rule : Rule = c.args.rule.now in
    let sets : List Assignment = c.deref-assignment-items.result.now in
    let rest : List Assignment = drop (c.loop-assignment.assignment-index + 1) sets in
    let s : Scene = c.loop-assignment.scene in
    let made : c.note_step.new.scene ≡ note_step rule s c.assignment-item.result = c.in_ok-note_step.ensures.scene in
    record {
      folds =
          ap (λ (t : Scene). fold (note_step rule) t rest) made
          ∙ ap (λ (a : Assignment). fold (note_step rule) (note_step rule s a) rest) c.assignment-item.is
          ∙ sym (ap (fold (note_step rule) s) (drop_more sets c.loop-assignment.assignment-index c.assignment-item.result c.loop-assignment-test.true))
          ∙ c.loop-assignment.invariant.folds;
      event = ap (λ (t : Scene). t.state.event) made ∙ note_stays rule c.assignment-item.result s ∙ c.loop-assignment.invariant.event;
    }
