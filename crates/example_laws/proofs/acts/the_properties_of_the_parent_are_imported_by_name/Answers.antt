use Rattle.std.proofs.Common.{refl}
use Rattle.example_laws.proofs.Computing.{computed}
use Rattle.example_laws.proofs.acts.the_properties_of_the_parent_are_imported_by_name.Goals as goal

pub returns : goal.returns
unfolding computed
returns c = record { fitting = refl; none = refl; negated = refl }
