use Rattle.std.proofs.Common.{◌≡◌, ◌++◌, map, length}
use Rattle.eval_assignments.specs.Links.{components}
use Rattle.eval_assignments.proofs.links.components.Given as goal

abbrev pub invariant-loop-component : goal.invariant-loop-component
invariant-loop-component l = map (λ t. t.now) l.steps.items ++ components l.rest ≡ components l.fn.path

abbrev pub decreases-loop-component : goal.decreases-loop-component
decreases-loop-component l = length l.rest
