use Rattle.std.proofs.Common.{refl}
use Rattle.example_laws.proofs.Computing.{computed}
use Rattle.example_laws.proofs.events.rules_are_evaluated_on_what_those_before_left.Goals as goal

pub returns : goal.returns
unfolding computed
returns c = refl
