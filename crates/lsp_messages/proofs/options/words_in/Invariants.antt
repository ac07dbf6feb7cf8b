use Rattle.std.proofs.Common.{◌≡◌, drop, map}
use Rattle.json.specs.Value.{items_view}
use Rattle.lsp_messages.specs.Options.{strings_in}
use Rattle.lsp_messages.proofs.Listed.{after}
use Rattle.lsp_messages.proofs.options.words_in.Given as goal

abbrev pub invariant-loop-value : goal.invariant-loop-value
invariant-loop-value l =
    strings_in (items_view l.values) ≡ after (map (λ w. w.now) l.words.items) (strings_in (items_view (drop l.value-index l.values)))
