use Rattle.std.proofs.Common.{◌≡◌, ℕ, ◌+◌, ◌<◌, drop, false, get_or}
use Rattle.lsp_messages.specs.Starts.{ends_row}
use Rattle.lsp_messages.proofs.whole_rows.whole_row_len.Given as goal

abbrev pub invariant-loop-at : goal.invariant-loop-at
invariant-loop-at l = (k : ℕ) → k < l.at → ends_row (get_or l.text k 0) (drop (k + 1) l.text) ≡ false
