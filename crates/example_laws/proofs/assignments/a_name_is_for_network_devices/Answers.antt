use Rattle.std.proofs.Common.{refl}
use Rattle.example_laws.proofs.Computing.{computed}
use Rattle.example_laws.proofs.assignments.a_name_is_for_network_devices.Goals as goal

pub returns : goal.returns
unfolding computed
returns c = refl
