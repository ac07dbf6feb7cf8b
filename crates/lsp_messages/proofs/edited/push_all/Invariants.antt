use Rattle.std.proofs.Common.{◌≡◌, ◌++◌, drop}
use Rattle.std.specs.List.{concat}
use Rattle.lsp_messages.proofs.edited.push_all.Given as goal

abbrev pub invariant-loop-row : goal.invariant-loop-row
invariant-loop-row l = l.text.items ++ concat (drop l.row-index l.rows) ≡ l.fn.text.items ++ concat l.rows
