use Rattle.std.proofs.Common.{◌≡◌, ap, ◌∙◌}
use Rattle.std.specs.List.{concat}
use Rattle.lsp_messages.specs.Whole.{in_order, whole_rows}
use Rattle.lsp_messages.proofs.Cutting.{made}
use Rattle.lsp_messages.proofs.Moving.{all_before}
use Rattle.lsp_messages.proofs.edited.Edited.new.Goals as goal

pub invariant_of-result : goal.invariant_of-result
invariant_of-result c =
    let all : in_order c.loop-row.before.items c.new-after.result.items ≡ whole_rows c.args.text.now =
    all_before c.loop-row.before.items c.new-after.result.items c.loop-row.row-iterator _ c.in-None.ensures.steps.0 c.new-after.ensures.items c.loop-row.invariant in
    rw (all, made c.args.text.now)

pub returns : goal.returns
returns c =
    let all : in_order c.loop-row.before.items c.new-after.result.items ≡ whole_rows c.args.text.now =
    all_before c.loop-row.before.items c.new-after.result.items c.loop-row.row-iterator _ c.in-None.ensures.steps.0 c.new-after.ensures.items c.loop-row.invariant in
    ap concat all ∙ made c.args.text.now
