use Rattle.std.proofs.Common.{refl}
use Rattle.example_laws.proofs.Computing.{computed}
use Rattle.example_laws.proofs.assignments.the_assignments_of_a_rule_are_made_by_kind.Goals as goal

pub returns : goal.returns
unfolding computed
returns c = refl
