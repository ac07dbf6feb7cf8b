use Rattle.std.proofs.Common.{ℕ, ◌≡◌, ◌<◌, ◌≤◌}
use Rattle.std.specs.declared.cmp.Ordering.TheVariants.{Equal}
use Rattle.trie_build.specs.Order.{label_cmp}
use Rattle.trie_build.specs.Groups.{label_at}
use Rattle.trie_build.specs.Rows.{patterns}
use Rattle.trie_build.proofs.groups.run_end.Given as goal

abbrev pub invariant-loop-at : goal.invariant-loop-at
invariant-loop-at l = record {
  started : l.start < l.at;
  same : (x : ℕ) → l.start ≤ x → x < l.at → label_cmp (label_at (patterns l.sorted.rows.now) l.depth l.start) (label_at (patterns l.sorted.rows.now) l.depth x) ≡ Equal;
}
