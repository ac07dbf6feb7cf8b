use Rattle.std.proofs.Common.{◌≤◌, length}
use Rattle.eval_core.specs.Checks.{most_names}
use Rattle.eval_core.proofs.checks.first_attributes.Given as goal

abbrev pub invariant-loop-name : goal.invariant-loop-name
invariant-loop-name l = length l.names.items ≤ most_names
