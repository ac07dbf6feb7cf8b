use Rattle.std.proofs.Common.{refl}
use Rattle.example_laws.proofs.Computing.{computed}
use Rattle.example_laws.proofs.events.values_are_read_with_their_escapes.Goals as goal

pub returns : goal.returns
unfolding computed
returns c = refl
