use Rattle.std.proofs.Common.{refl}
use Rattle.example_laws.proofs.Computing.{computed}
use Rattle.example_laws.proofs.assignments.options_are_those_given_last.Goals as goal

pub returns : goal.returns
unfolding computed
returns c = record { last = refl; watch = refl }
