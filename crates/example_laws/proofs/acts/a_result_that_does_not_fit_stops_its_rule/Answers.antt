use Rattle.std.proofs.Common.{refl}
use Rattle.example_laws.proofs.Computing.{computed}
use Rattle.example_laws.proofs.acts.a_result_that_does_not_fit_stops_its_rule.Goals as goal

pub returns : goal.returns
unfolding computed
returns c = refl
