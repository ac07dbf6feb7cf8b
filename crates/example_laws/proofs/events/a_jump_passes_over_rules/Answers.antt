use Rattle.std.proofs.Common.{refl}
use Rattle.example_laws.proofs.Computing.{computed}
use Rattle.example_laws.proofs.events.a_jump_passes_over_rules.Goals as goal

pub returns : goal.returns
unfolding computed
returns c = record { reached = refl; stopped = refl }
