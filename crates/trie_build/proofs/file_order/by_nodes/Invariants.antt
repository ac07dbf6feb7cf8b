use Rattle.std.proofs.Common.{◌≡◌, flat_map, take}
use Rattle.trie_build.specs.Held.{own_numbers}
use Rattle.trie_build.proofs.file_order.by_nodes.Given as goal

abbrev pub invariant-loop-node : goal.invariant-loop-node
invariant-loop-node l = l.order.items ≡ flat_map (own_numbers l.numbers) (take l.node-index l.nodes)
