use Rattle.std.proofs.Common.{◌-◌, ◌≤◌, length, drop}
use Rattle.trie_nodes.proofs.Stepping.{Walked, after_last}
use Rattle.trie_nodes.proofs.walk.merge.Given as goal

abbrev pub invariant-loop-taken : goal.invariant-loop-taken
invariant-loop-taken g l = record {
  within : l.starred_at ≤ length l.starred.items;
  met : Walked (g.N.Nodes.nodes l.nodes) l.modalias l.at l.next.items l.taken l.stay (drop l.starred_at l.starred.items) (after_last l.next.items);
}

abbrev pub decreases-loop-taken : goal.decreases-loop-taken
decreases-loop-taken g l = length (g.N.Nodes.nodes l.nodes) - after_last l.next.items
