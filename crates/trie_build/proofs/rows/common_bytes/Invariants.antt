use Rattle.std.proofs.Common.{ℕ, ◌≡◌, ◌<◌, get_or}
use Rattle.trie_build.proofs.rows.common_bytes.Given as goal

abbrev pub invariant-loop-at : goal.invariant-loop-at
invariant-loop-at l = (d : ℕ) → d < l.at → get_or l.prefix d 0 ≡ get_or l.other d 0
