use Rattle.std.proofs.Common.{ℕ, ◌≡◌, ◌-◌, ◌<◌, get_or, length}
use Rattle.trie_build.specs.Rows.{IsCommon, pattern_at, patterns}
use Rattle.trie_build.proofs.rows.shared_prefixes.Given as goal

abbrev pub invariant-loop-at : goal.invariant-loop-at
invariant-loop-at l = record {
  len : length l.shared.items ≡ l.at;
  each : (x : ℕ) → x < l.at → 0 < x → IsCommon (pattern_at (patterns l.rows) (x - 1)) (pattern_at (patterns l.rows) x) (get_or l.shared.items x 0);
}
