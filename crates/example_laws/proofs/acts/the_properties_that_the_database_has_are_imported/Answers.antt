use Rattle.std.proofs.Common.{refl}
use Rattle.example_laws.proofs.Computing.{computed}
use Rattle.example_laws.proofs.acts.the_properties_that_the_database_has_are_imported.Goals as goal

pub returns : goal.returns
unfolding computed
returns c = record { nearest = refl; filter = refl; subsystem = refl; prefix = refl; modalias = refl; none = refl }
