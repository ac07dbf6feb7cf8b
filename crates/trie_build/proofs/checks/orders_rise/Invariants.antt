use Rattle.std.proofs.Common.{ℕ, ◌+◌, ◌<◌, ◌≤◌}
use Rattle.trie_build.specs.Records.{value}
use Rattle.trie_build.proofs.checks.orders_rise.Given as goal

abbrev pub invariant-loop-j : goal.invariant-loop-j
invariant-loop-j l = (k : ℕ) → l.node.first_value ≤ k → k + 1 < l.node.first_value + l.j → (value l.records k).order < (value l.records (k + 1)).order
