use Rattle.std.proofs.Common.{◌≡◌, drop}
use Rattle.json.specs.Value.{items_view}
use Rattle.lsp_messages.specs.Changes.{changes_in}
use Rattle.lsp_messages.proofs.Listed.{after}
use Rattle.lsp_messages.proofs.changes.changes_in.Given as goal

abbrev pub invariant-loop-value : goal.invariant-loop-value
invariant-loop-value l = changes_in (items_view l.values) ≡ after l.changes.items (changes_in (items_view (drop l.value-index l.values)))
