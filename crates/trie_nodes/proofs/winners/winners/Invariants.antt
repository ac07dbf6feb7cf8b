use Rattle.std.proofs.Common.{◌≡◌, map, take}
use Rattle.trie_nodes.specs.Found.{found_entries, stripped}
use Rattle.trie_nodes.specs.Query.{fitting}
use Rattle.trie_nodes.proofs.winners.winners.Given as goal

abbrev pub invariant-loop-entry : goal.invariant-loop-entry
invariant-loop-entry l = found_entries l.found.items ≡ map stripped (fitting (take l.entry-index l.entries) l.modalias)
