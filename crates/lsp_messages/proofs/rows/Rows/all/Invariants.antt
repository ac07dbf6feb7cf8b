use Rattle.std.proofs.Common.{◌≡◌, ◌∷◌, map, take}
use Rattle.lsp_messages.specs.Rows.{row_at}
use Rattle.lsp_messages.specs.Starts.{starts}
use Rattle.lsp_messages.proofs.rows.Rows.all.Given as goal

abbrev pub invariant-loop-start : goal.invariant-loop-start
invariant-loop-start l = map (λ r. r.now) l.rows.items ≡ row_at l.self 0 ∷ map (row_at l.self) (take l.start-index (starts l.self))
