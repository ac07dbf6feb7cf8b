use Rattle.std.proofs.Common.{ℕ, ◌<◌}
use Rattle.trie_build.specs.Records.{value}
use Rattle.trie_build.specs.Accepted.{HasTexts}
use Rattle.trie_build.proofs.checks.has_texts.Given as goal

abbrev pub invariant-loop-j : goal.invariant-loop-j
invariant-loop-j l = (k : ℕ) → k < l.j → HasTexts l.header.text (value l.records k)
