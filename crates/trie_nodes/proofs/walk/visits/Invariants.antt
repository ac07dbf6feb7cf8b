use Rattle.std.proofs.Common.{◌≡◌, ◌+◌, ◌-◌, ◌*◌, ◌^◌, ◌≤◌, length, take}
use Rattle.trie_nodes.specs.Tree.{active_after, count_within}
use Rattle.trie_nodes.proofs.walk.visits.Given as goal

abbrev pub invariant-loop-at : goal.invariant-loop-at
invariant-loop-at g l = record {
  active : l.walk.active.items ≡ active_after (g.N.Nodes.nodes l.nodes) (take l.at l.modalias);
  count : l.sum ≡ count_within (g.N.Nodes.nodes l.nodes) l.modalias l.at;
  small : l.sum ≤ (2 ^ 64 - 1) * (l.at + 1);
  bound : l.sum ≤ length (g.N.Nodes.nodes l.nodes) * (l.at + 1);
}
