use Rattle.std.proofs.Common.{◌≡◌, ◌+◌, length, map, take}
use Rattle.std.specs.List.{range_with_len}
use Rattle.trie_build.specs.Image.{all_names}
use Rattle.trie_build.specs.Content.{shown}
use Rattle.trie_build.proofs.values.places_of.Given as goal

abbrev pub invariant-loop-k : goal.invariant-loop-k
invariant-loop-k l = record {
  places : l.places.items ≡ map (λ k. l.fn.from + length (all_names (take k (shown l.names)))) (range_with_len 0 l.k);
  place : l.place ≡ l.fn.from + length (all_names (take l.k (shown l.names)));
}
