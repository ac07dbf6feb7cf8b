use Rattle.std.proofs.Common.{◌≡◌, map, take}
use Rattle.trie_nodes.specs.Query.{origin, shown_origin}
use Rattle.trie_nodes.specs.Found.{found_entries}
use Rattle.trie_nodes.proofs.answers.query_sources.Given as goal

abbrev pub invariant-loop-winner : goal.invariant-loop-winner
invariant-loop-winner g l = map shown_origin l.found.items ≡ map origin (found_entries (take l.winner-index l.winner-items))
