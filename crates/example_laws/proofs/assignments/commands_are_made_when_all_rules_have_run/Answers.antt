use Rattle.std.proofs.Common.{refl}
use Rattle.example_laws.proofs.Computing.{computed}
use Rattle.example_laws.proofs.assignments.commands_are_made_when_all_rules_have_run.Goals as goal

pub returns : goal.returns
unfolding computed
returns c = record { added = refl; replaced = refl }
