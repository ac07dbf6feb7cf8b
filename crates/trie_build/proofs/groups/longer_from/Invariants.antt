use Rattle.std.proofs.Common.{ℕ, ◌≡◌, ◌<◌, ◌≤◌, length}
use Rattle.trie_build.specs.Rows.{pattern_at, patterns}
use Rattle.trie_build.proofs.groups.longer_from.Given as goal

abbrev pub invariant-loop-at : goal.invariant-loop-at
invariant-loop-at l = record {
  started : l.group.start ≤ l.at;
  own : (x : ℕ) → l.group.start ≤ x → x < l.at → length (pattern_at (patterns l.rows) x) ≡ l.group.depth;
}
