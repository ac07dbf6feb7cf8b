use Rattle.std.proofs.Common.{◌∙◌, false, true, ap}
use Rattle.rule_types.specs.Passes.{leaves_unused, with_note}
use Rattle.rule_types.proofs.Passing.{down_start, down_past, down_end}
use Rattle.rule_types.proofs.passes.unused_flags.Goals as goal

pub loop-rule-init : goal.loop-rule-init
loop-rule-init c = down_start c.new-waiting.result c.in_ok-flags.flags.items c.args.rules.now c.new-waiting.ensures c.in_ok-flags.ensures.items

pub loop-rule-preserved : goal.loop-rule-preserved
loop-rule-preserved c =
    down_past c.loop-rule.waiting c.note.new.waiting c.note-in-loop-rule.new.waiting c.loop-rule.flags.items c.push.new.self.items c.args.rules.now c.loop-rule.rule-index c.rule-item.result c.leaves_unused.result
    c.loop-rule.invariant c.loop-rule-test.true c.rule-item.is (c.leaves_unused.ensures ∙ ap (leaves_unused c.loop-rule.waiting) c.label.ensures) c.in_ok-push.ensures.items
    (c.in_ok-note.ensures ∙ ap (λ l. with_note c.loop-rule.waiting l false) c.label-in-loop-rule.ensures)
    (c.in_ok-note-2.ensures ∙ ap (λ l. with_note c.note.new.waiting l true) c.goto.ensures)

pub returns : goal.returns
returns c = down_end c.loop-rule.waiting c.loop-rule.flags.items c.args.rules.now c.loop-rule.rule-index c.loop-rule.invariant c.loop-rule-test.false
