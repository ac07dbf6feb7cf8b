use Rattle.std.proofs.Common.{refl}
use Rattle.example_laws.proofs.Computing.{computed}
use Rattle.example_laws.proofs.unused.of_files_that_are_added_alone_rules_are_told.Goals as goal

pub returns : goal.returns
unfolding computed
returns c = record { added = refl; met = refl }
