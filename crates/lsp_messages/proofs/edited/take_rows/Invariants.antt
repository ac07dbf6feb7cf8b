use Rattle.std.proofs.Common.{◌≡◌, ◌-◌, ◌++◌, drop, reverse, take}
use Rattle.std.specs.List.{concat}
use Rattle.lsp_messages.proofs.edited.take_rows.Given as goal

abbrev pub invariant-loop-row : goal.invariant-loop-row
invariant-loop-row l = record {
  taken : l.text.items ++ concat (take (l.count - l._row) (reverse l.after.items)) ≡ l.fn.text.items ++ concat (take l.count (reverse l.fn.after.items));
  left : drop (l.count - l._row) (reverse l.after.items) ≡ drop l.count (reverse l.fn.after.items);
}
