use Rattle.std.proofs.Common.{◌≡◌, ◌++◌}
use Rattle.lsp_messages.specs.Whole.{whole_rows}
use Rattle.lsp_messages.proofs.edited.Edited.new.Given as goal

abbrev pub invariant-loop-row : goal.invariant-loop-row
invariant-loop-row l = l.before.items ++ l.row-iterator ≡ whole_rows l.text
