use Rattle.std.proofs.Common.{◌≡◌, ◌++◌, ◌-◌}
use Rattle.std.specs.List.{range_with_len}
use Rattle.trie_nodes.specs.Tree.{children}
use Rattle.trie_nodes.specs.Steps.{stars}
use Rattle.trie_nodes.proofs.walk.push_stars.Given as goal

abbrev pub invariant-loop-child : goal.invariant-loop-child
invariant-loop-child g l =
    l.list.items ++ stars (g.N.Nodes.nodes l.nodes) (range_with_len l.child (l.child-end - l.child)) ≡ l.fn.list.items ++ stars (g.N.Nodes.nodes l.nodes) (children (g.N.Nodes.nodes l.nodes) l.parent)
