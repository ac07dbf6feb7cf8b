use Rattle.std.proofs.Common.{◌≡◌, map, take}
use Rattle.trie_nodes.specs.Found.{found_entries}
use Rattle.trie_nodes.specs.Query.{property, shown}
use Rattle.trie_nodes.proofs.plain.PlainDbLookup.query.Given as goal

abbrev pub invariant-loop-winner : goal.invariant-loop-winner
invariant-loop-winner l = shown l.found.items ≡ map property (found_entries (take l.winner-index l.winner-items))
