use Rattle.std.proofs.Common.{◌≡◌, take}
use Rattle.trie_nodes.specs.Steps.{stars}
use Rattle.trie_nodes.proofs.walk.all_stars.Given as goal

abbrev pub invariant-loop-i : goal.invariant-loop-i
invariant-loop-i g l = l.list.items ≡ stars (g.N.Nodes.nodes l.nodes) (take l.i-index l.active)
