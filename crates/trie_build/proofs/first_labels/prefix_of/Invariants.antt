use Rattle.std.proofs.Common.{◌≡◌, ◌-◌, ◌++◌, ◌≤◌, drop, length, take}
use Rattle.trie_build.specs.Prefixes.{codes}
use Rattle.trie_build.proofs.first_labels.prefix_of.Given as goal

abbrev pub invariant-loop-at : goal.invariant-loop-at
invariant-loop-at l = record {
  len : length l.prefix ≡ 24;
  within : l.from ≤ length l.pattern;
  codes : take l.at l.prefix ++ codes (24 - l.at) (drop l.from l.pattern) ≡ codes 24 l.pattern;
}
