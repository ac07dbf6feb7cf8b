use Rattle.std.proofs.Common.{◌-◌, ◌≤◌, length}
use Rattle.trie_nodes.specs.Bounds.{max_nodes}
use Rattle.trie_build.specs.Rows.{patterns}
use Rattle.trie_build.proofs.Building.{IsBuilt}
use Rattle.trie_build.proofs.build.nodes_of.Given as goal

abbrev pub invariant-loop-groups : goal.invariant-loop-groups
invariant-loop-groups l = record {
  built : IsBuilt (patterns l.sorted.rows.now) l.nodes.items l.groups.items;
  few : length l.groups.items ≤ max_nodes;
}

abbrev pub decreases-loop-groups : goal.decreases-loop-groups
decreases-loop-groups l = max_nodes - length l.nodes.items
