use Rattle.std.proofs.Common.{◌≡◌, take}
use Rattle.std.specs.List.{flat_map}
use Rattle.trie_nodes.specs.Tree.{children}
use Rattle.trie_nodes.specs.Steps.{takers}
use Rattle.trie_nodes.proofs.walk.all_takers.Given as goal

abbrev pub invariant-loop-parent : goal.invariant-loop-parent
invariant-loop-parent g l = l.list.items ≡ flat_map (λ i. takers (g.N.Nodes.nodes l.nodes) l.byte (children (g.N.Nodes.nodes l.nodes) i)) (take l.parent-index l.active)
