use Rattle.std.proofs.Common.{◌≡◌, ◌++◌, flat_map, map, take}
use Rattle.std.specs.List.{range_with_len, sum_by}
use Rattle.trie_build.specs.Records.{node_bytes}
use Rattle.trie_build.specs.Content.{shown}
use Rattle.trie_build.specs.Writing.{node_record}
use Rattle.trie_build.proofs.nodes.push_nodes.Given as goal

abbrev pub invariant-loop-i : goal.invariant-loop-i
invariant-loop-i l = record {
  out : l.out.items ≡ l.initial.out.items ++ flat_map node_bytes (map (node_record (shown l.sets) l.nodes) (range_with_len 0 l.i));
  first : l.first_value ≡ sum_by (λ n. n.values) (take l.i l.nodes);
}
