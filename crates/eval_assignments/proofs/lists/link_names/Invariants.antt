use Rattle.std.proofs.Common.{◌≡◌, ◌++◌, map, length}
use Rattle.eval_assignments.specs.Lists.{link_names}
use Rattle.eval_assignments.proofs.lists.link_names.Given as goal

abbrev pub invariant-loop-prefix : goal.invariant-loop-prefix
invariant-loop-prefix l = map (λ t. t.now) l.names.items ++ link_names l.rest ≡ link_names l.fn.text

abbrev pub decreases-loop-prefix : goal.decreases-loop-prefix
decreases-loop-prefix l = length l.rest
