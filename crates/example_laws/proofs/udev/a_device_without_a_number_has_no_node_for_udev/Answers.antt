use Rattle.std.proofs.Common.{refl}
use Rattle.example_laws.proofs.Computing.{computed}
use Rattle.example_laws.proofs.udev.a_device_without_a_number_has_no_node_for_udev.Goals as goal

pub returns : goal.returns
unfolding computed
returns c = refl
