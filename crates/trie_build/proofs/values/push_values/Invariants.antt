use Rattle.std.proofs.Common.{◌≡◌, ◌++◌, flat_map, map}
use Rattle.std.specs.List.{range_with_len}
use Rattle.trie_build.specs.Records.{value_bytes}
use Rattle.trie_build.specs.Content.{shown}
use Rattle.trie_build.specs.Writing.{named, place_before, value_record}
use Rattle.trie_build.proofs.values.push_values.Given as goal

abbrev pub invariant-loop-j : goal.invariant-loop-j
invariant-loop-j l = record {
  out : l.out.items ≡ l.initial.out.items ++ flat_map value_bytes (map (value_record (named l.entries l.order) (shown l.names)) (range_with_len 0 l.j));
  place : l.place ≡ place_before (named l.entries l.order) l.j;
}
