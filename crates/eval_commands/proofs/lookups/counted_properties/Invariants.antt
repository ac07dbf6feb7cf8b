use Rattle.std.proofs.Common.{◌≡◌, ◌++◌, drop, filter}
use Rattle.trie_nodes.specs.Query.{shown}
use Rattle.text_core.specs.Fits.{fits}
use Rattle.eval_commands.proofs.lookups.counted_properties.Given as goal

abbrev pub invariant-loop-key : goal.invariant-loop-key
invariant-loop-key g l =
    shown l.kept.items ++ filter (λ property. fits l.pattern property.0) (shown (drop l.key-index l.key-items))
    ≡ filter (λ property. fits l.pattern property.0) (shown l.key-items)
