use Rattle.std.proofs.Common.{◌≡◌, flat_map, take}
use Rattle.trie_build.specs.Content.{shown}
use Rattle.trie_build.specs.Sizes.{set_in}
use Rattle.trie_build.proofs.size.sets_of.Given as goal

abbrev pub invariant-loop-node : goal.invariant-loop-node
invariant-loop-node l = shown l.sets.items ≡ flat_map (λ n. set_in n.label) (take l.node-index l.nodes)
