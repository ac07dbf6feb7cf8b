use Rattle.std.proofs.Common.{◌+◌, ◌-◌, ap, ◌∙◌}
use Rattle.lsp_messages.specs.TextChanges.{changed}
use Rattle.lsp_messages.specs.Whole.{in_order}
use Rattle.lsp_messages.proofs.Editing.{all_edited}
use Rattle.lsp_messages.proofs.edited.Edited.replaced.Goals as goal

pub invariant_of-result : goal.invariant_of-result
invariant_of-result c =
    (all_edited c.args.encoding (in_order c.self.inside.before.items c.self.inside.after.items) c.first_touched-first.result (c.max.result + 1 - c.first_touched-first.result)
    c.args.range.0 c.args.range.1 c.args.text.now c.self.invariant (rw (c.deref.ensures.value, c.deref-2.ensures.value) at c.first_touched-first.ensures)
    (ap (λ n. n + 1 - c.first_touched-first.result) c.max.ensures)
    c.move_to.new.before.items c.move_to.new.after.items c.take_rows.new.after.items c.push_rows.new.rows.items c.deref-3.result.now c.as_slice.result.now
    c.later.result c.later-2.result c.in_ok-move_to.ensures.before c.in_ok-move_to.ensures.after (c.deref-3.ensures.value ∙ (rw c.new-touched.ensures.items at c.in_ok-take_rows.ensures.taken))
    c.in_ok-take_rows.ensures.left c.later.ensures c.later-2.ensures
    (c.as_slice.ensures ∙ c.in_ok-new.ensures ∙ ap (changed c.args.encoding c.deref-3.result.now) c.new-change.ensures)
    c.in_ok-push_rows.ensures).whole

pub returns : goal.returns
returns c =
    rw (← c.self.view_is)
    ((all_edited c.args.encoding (in_order c.self.inside.before.items c.self.inside.after.items) c.first_touched-first.result (c.max.result + 1 - c.first_touched-first.result)
    c.args.range.0 c.args.range.1 c.args.text.now c.self.invariant (rw (c.deref.ensures.value, c.deref-2.ensures.value) at c.first_touched-first.ensures)
    (ap (λ n. n + 1 - c.first_touched-first.result) c.max.ensures)
    c.move_to.new.before.items c.move_to.new.after.items c.take_rows.new.after.items c.push_rows.new.rows.items c.deref-3.result.now c.as_slice.result.now
    c.later.result c.later-2.result c.in_ok-move_to.ensures.before c.in_ok-move_to.ensures.after (c.deref-3.ensures.value ∙ (rw c.new-touched.ensures.items at c.in_ok-take_rows.ensures.taken))
    c.in_ok-take_rows.ensures.left c.later.ensures c.later-2.ensures
    (c.as_slice.ensures ∙ c.in_ok-new.ensures ∙ ap (changed c.args.encoding c.deref-3.result.now) c.new-change.ensures)
    c.in_ok-push_rows.ensures).text)
