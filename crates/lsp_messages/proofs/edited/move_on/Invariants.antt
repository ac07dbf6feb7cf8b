use Rattle.std.proofs.Common.{◌≡◌, ◌≤◌, length}
use Rattle.lsp_messages.specs.Whole.{in_order}
use Rattle.lsp_messages.proofs.edited.move_on.Given as goal

abbrev pub invariant-loop-after : goal.invariant-loop-after
invariant-loop-after l = record {
  same : in_order l.before.items l.after.items ≡ in_order l.fn.before.items l.fn.after.items;
  count : length l.before.items ≤ l.count;
}

abbrev pub decreases-loop-after : goal.decreases-loop-after
decreases-loop-after l = length l.after.items
