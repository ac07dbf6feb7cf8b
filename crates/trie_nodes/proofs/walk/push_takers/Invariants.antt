use Rattle.std.proofs.Common.{◌≡◌, ◌++◌, ◌-◌}
use Rattle.std.specs.List.{range_with_len}
use Rattle.trie_nodes.specs.Tree.{children}
use Rattle.trie_nodes.specs.Steps.{takers}
use Rattle.trie_nodes.proofs.walk.push_takers.Given as goal

abbrev pub invariant-loop-child : goal.invariant-loop-child
invariant-loop-child g l =
    l.list.items ++ takers (g.N.Nodes.nodes l.nodes) l.byte (range_with_len l.child (l.child-end - l.child)) ≡ l.fn.list.items ++ takers (g.N.Nodes.nodes l.nodes) l.byte (children (g.N.Nodes.nodes l.nodes) l.parent)
