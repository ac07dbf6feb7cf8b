use Rattle.std.proofs.Common.{ℕ, ◌<◌}
use Rattle.trie_build.specs.Records.{node}
use Rattle.trie_build.specs.Accepted.{IsLabelled}
use Rattle.trie_build.proofs.checks.has_labels.Given as goal

abbrev pub invariant-loop-i : goal.invariant-loop-i
invariant-loop-i l = (k : ℕ) → k < l.i → IsLabelled l.header.sets k (node l.records k)
