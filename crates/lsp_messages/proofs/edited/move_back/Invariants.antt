use Rattle.std.proofs.Common.{◌≡◌, length, min}
use Rattle.lsp_messages.specs.Whole.{in_order}
use Rattle.lsp_messages.proofs.edited.move_back.Given as goal

abbrev pub invariant-loop-before : goal.invariant-loop-before
invariant-loop-before l = record {
  same : in_order l.before.items l.after.items ≡ in_order l.fn.before.items l.fn.after.items;
  count : min l.count (length l.before.items) ≡ min l.count (length l.fn.before.items);
}

abbrev pub decreases-loop-before : goal.decreases-loop-before
decreases-loop-before l = length l.before.items
