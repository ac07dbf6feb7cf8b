use Rattle.std.proofs.Common.{◌≡◌, [], fold, take}
use Rattle.trie_nodes.specs.Found.{found_entries}
use Rattle.trie_nodes.specs.Query.{put}
use Rattle.trie_nodes.proofs.found.settle.Given as goal

abbrev pub invariant-loop-property : goal.invariant-loop-property
invariant-loop-property l = found_entries l.won.items ≡ fold put [] (found_entries (take l.property-index l.property-items))
