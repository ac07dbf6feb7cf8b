use Rattle.std.proofs.Common.{◌≡◌, ◌++◌}
use Rattle.builtin_link.specs.Versions.{ranks_of, version_ranks}
use Rattle.builtin_link.proofs.versions.version_ranks.Given as goal

abbrev pub invariant-loop-left : goal.invariant-loop-left
invariant-loop-left l = l.ranks.items ++ ranks_of l.left l.text ≡ version_ranks l.version

abbrev pub decreases-loop-left : goal.decreases-loop-left
decreases-loop-left l = l.left
