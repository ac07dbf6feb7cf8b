use Rattle.std.proofs.Common.{refl}
use Rattle.example_laws.proofs.Computing.{computed}
use Rattle.example_laws.proofs.assignments.a_property_is_set_extended_and_removed.Goals as goal

pub returns : goal.returns
unfolding computed
returns c = refl
