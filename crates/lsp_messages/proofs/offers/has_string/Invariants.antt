use Rattle.std.proofs.Common.{◌≡◌, drop}
use Rattle.json.specs.Value.{items_view}
use Rattle.lsp_messages.specs.Offers.{has_string}
use Rattle.lsp_messages.proofs.offers.has_string.Given as goal

abbrev pub invariant-loop-value : goal.invariant-loop-value
invariant-loop-value l = has_string l.text (items_view l.values) ≡ has_string l.text (items_view (drop l.value-index l.values))
