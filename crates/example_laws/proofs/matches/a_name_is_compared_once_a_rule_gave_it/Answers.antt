use Rattle.std.proofs.Common.{refl}
use Rattle.example_laws.proofs.Computing.{computed}
use Rattle.example_laws.proofs.matches.a_name_is_compared_once_a_rule_gave_it.Goals as goal

pub returns : goal.returns
unfolding computed
returns c = refl
