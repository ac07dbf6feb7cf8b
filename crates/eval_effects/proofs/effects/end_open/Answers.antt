use Rattle.std.proofs.Common.{◌≡◌, ◌+◌, ◌∙◌, ◌++◌, List, ap, drop, fold, sym}
use Rattle.std.proofs.lemmas.List.{drop_more}
use Rattle.text_bytes.specs.Text.{Text}
use Rattle.rule_types.specs.declared.part.Assignment.{Assignment}
use Rattle.rule_types.specs.Rules.{Rule}
use Rattle.eval_state.specs.declared.scene.Scene.{Scene}
use Rattle.eval_assignments.specs.Steps.{set_step}
use Rattle.eval_effects.specs.Effects.{effects}
use Rattle.eval_effects.proofs.Following.{reported_more}
use Rattle.eval_effects.proofs.effects.end_open.Goals as goal

pub loop-assignment-preserved : goal.loop-assignment-preserved
loop-assignment-preserved c =
    let rule : Rule = c.args.rule.now in
    let sets : List Assignment = c.deref-assignment-items.result.now in
    let rest : List Assignment = drop (c.loop-assignment.assignment-index + 1) sets in
    let s : Scene = c.loop-assignment.scene in
    let a : Assignment = c.assignment-item.result in
    let made : c.set_and_report.new.scene ≡ set_step rule s a = c.in_ok-set_and_report.ensures.scene in
    record {
      folds =
          ap (λ (t : Scene). fold (set_step rule) t rest) made
          ∙ ap (λ (a : Assignment). fold (set_step rule) (set_step rule s a) rest) c.assignment-item.is
          ∙ sym (ap (fold (set_step rule) s) (drop_more sets c.loop-assignment.assignment-index a c.loop-assignment-test.true))
          ∙ c.loop-assignment.invariant.folds;
      reported =
          ap (λ (reported : List Text). reported ++ effects c.args.since.now rule c.set_and_report.new.scene rest) c.in_ok-push.ensures.items
          ∙ reported_more c.args.since.now rule s c.set_and_report.new.scene sets c.loop-assignment.assignment-index a c.loop-assignment.reported.items c.in_ok-set_and_report.field-0 _ c.loop-assignment-test.true c.assignment-item.is made c.in_ok-set_and_report.ensures.text c.loop-assignment.invariant.reported;
      event = c.in_ok-set_and_report.ensures.event ∙ c.loop-assignment.invariant.event;
    }
