use Rattle.std.proofs.Common.{◌≡◌, ◌++◌}
use Rattle.lsp_messages.specs.Whole.{whole_rows}
use Rattle.lsp_messages.proofs.edited.push_rows.Given as goal

abbrev pub invariant-loop-row : goal.invariant-loop-row
invariant-loop-row l = l.rows.items ++ l.row-iterator ≡ l.fn.rows.items ++ whole_rows l.text
