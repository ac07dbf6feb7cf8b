use Rattle.std.proofs.Common.{◌≡◌, ◌∙◌, IfOk, ap, rules, subst}
use Rattle.text_bytes.specs.Text.{Text}
use Rattle.eval_state.specs.declared.scene.Scene.{Scene}
use Rattle.eval_assignments.proofs.Staying.{set_stays}
use Rattle.eval_effects.proofs.Narrowing.{effect_told}
use Rattle.eval_effects.proofs.effects.set_and_report.Goals as goal

pub returns-in-Some-clause-event : goal.returns-in-Some-clause-event
returns-in-Some-clause-event c = ap (λ (s : Scene). s.state.event) c.in_ok-set_one.ensures.scene ∙ set_stays c.args.rule.now c.args.assignment.now c.args.scene.now

pub returns-clause-event : goal.returns-clause-event
returns-clause-event c = ap (λ (s : Scene). s.state.event) c.in_ok-set_one.ensures.scene ∙ set_stays c.args.rule.now c.args.assignment.now c.args.scene.now

pub returns-clause-text : goal.returns-clause-text
returns-clause-text c =
    subst (λ (text : Text). IfOk c.made_text.result (λ given. given ≡ text))
    (effect_told c.args.since.now c.args.rule.now c.args.scene.now c.set_one.new.scene c.args.assignment.now c.in_ok-written.written c.of-fronts.result c.in_ok-was.was' c.len-attrs.ensures.once c.len-sysctls.ensures.once
    (search rules) c.in_ok-written.ensures c.of-fronts.ensures c.in_ok-was.ensures c.in_ok-set_one.ensures.scene)
    c.made_text.ensures
