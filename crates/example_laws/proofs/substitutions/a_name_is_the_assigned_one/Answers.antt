use Rattle.std.proofs.Common.{refl}
use Rattle.example_laws.proofs.Computing.{computed}
use Rattle.example_laws.proofs.substitutions.a_name_is_the_assigned_one.Goals as goal

pub returns : goal.returns
unfolding computed
returns c = refl
