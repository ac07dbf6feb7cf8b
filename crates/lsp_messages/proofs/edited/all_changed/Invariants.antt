use Rattle.std.proofs.Common.{◌≡◌, drop}
use Rattle.lsp_messages.specs.TextChanges.{all_changed}
use Rattle.lsp_messages.proofs.edited.all_changed.Given as goal

abbrev pub invariant-loop-change : goal.invariant-loop-change
invariant-loop-change l = all_changed l.encoding l.rows (drop l.change-index l.changes) ≡ all_changed l.encoding l.text l.changes
