use Rattle.std.proofs.Common.{ℕ, ◌<◌}
use Rattle.trie_build.specs.Records.{node}
use Rattle.trie_build.specs.Accepted.{OrdersRise}
use Rattle.trie_build.proofs.checks.has_orders.Given as goal

abbrev pub invariant-loop-i : goal.invariant-loop-i
invariant-loop-i l = (k : ℕ) → k < l.i → OrdersRise l.records (node l.records k)
