use Rattle.std.proofs.Common.{◌-◌}
use Rattle.trie_build.specs.Rows.{patterns}
use Rattle.trie_build.proofs.Splitting.{IsSoFar}
use Rattle.trie_build.proofs.groups.split.Given as goal

abbrev pub invariant-loop-at : goal.invariant-loop-at
invariant-loop-at l = IsSoFar (patterns l.sorted.rows.now) l.group l.from l.at l.fn.groups.items l.groups.items

abbrev pub decreases-loop-at : goal.decreases-loop-at
decreases-loop-at l = l.group.end - l.at
