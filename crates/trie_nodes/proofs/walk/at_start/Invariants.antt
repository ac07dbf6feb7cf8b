use Rattle.std.proofs.Common.{◌+◌, ◌-◌, ◌≤◌, length, drop, take, get_or}
use Rattle.trie_nodes.proofs.Stepping.{Started}
use Rattle.trie_nodes.proofs.walk.at_start.Given as goal

abbrev pub invariant-loop-at : goal.invariant-loop-at
invariant-loop-at g l = record {
  within : l.at ≤ length l.list.items;
  met : Started (g.N.Nodes.nodes l.nodes) (take l.at l.list.items) (drop l.at l.list.items) (get_or l.list.items (l.at - 1) 0 + 1);
}

abbrev pub decreases-loop-at : goal.decreases-loop-at
decreases-loop-at g l = length (g.N.Nodes.nodes l.nodes) - (get_or l.list.items (l.at - 1) 0 + 1)
