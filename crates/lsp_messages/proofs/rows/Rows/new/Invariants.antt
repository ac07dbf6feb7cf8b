use Rattle.std.proofs.Common.{◌≡◌, ◌++◌, drop}
use Rattle.lsp_messages.specs.Starts.{starts, starts_from}
use Rattle.lsp_messages.proofs.rows.Rows.new.Given as goal

abbrev pub invariant-loop-at : goal.invariant-loop-at
invariant-loop-at l = l.later.items ++ starts_from l.at (drop l.at l.text) ≡ starts l.text
