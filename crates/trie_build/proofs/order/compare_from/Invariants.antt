use Rattle.std.proofs.Common.{◌≡◌, ◌-◌, ◌≤◌, drop, length}
use Rattle.trie_build.specs.Order.{pattern_cmp}
use Rattle.trie_build.proofs.order.compare_from.Given as goal

abbrev pub invariant-loop-at : goal.invariant-loop-at
invariant-loop-at l = record {
  within : l.at ≤ length l.pattern;
  other : l.next ≤ length l.other;
  left : pattern_cmp (drop l.at l.pattern) (drop l.next l.other) ≡ pattern_cmp (drop l.from l.pattern) (drop l.other_from l.other);
}

abbrev pub decreases-loop-at : goal.decreases-loop-at
decreases-loop-at l = length l.pattern - l.at
