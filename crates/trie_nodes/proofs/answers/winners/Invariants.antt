use Rattle.std.proofs.Common.{◌≡◌, map, take}
use Rattle.std.specs.List.{flat_map}
use Rattle.trie_nodes.specs.Found.{found_entries}
use Rattle.trie_nodes.specs.Values.{bare, values_of}
use Rattle.trie_nodes.proofs.answers.winners.Given as goal

abbrev pub invariant-loop-i : goal.invariant-loop-i
invariant-loop-i g l = found_entries l.found.items ≡ map bare (flat_map (values_of (g.D.Nodes.nodes l.database) (g.D.Database.values l.database)) (take l.i-index l.i-items))
