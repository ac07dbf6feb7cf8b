use Rattle.std.proofs.Common.{refl}
use Rattle.example_laws.proofs.Computing.{computed}
use Rattle.example_laws.proofs.substitutions.what_is_absent_is_replaced_with_nothing.Goals as goal

pub returns : goal.returns
unfolding computed
returns c = refl
