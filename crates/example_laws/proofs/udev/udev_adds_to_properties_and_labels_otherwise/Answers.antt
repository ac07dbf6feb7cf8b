use Rattle.std.proofs.Common.{refl}
use Rattle.example_laws.proofs.Computing.{computed}
use Rattle.example_laws.proofs.udev.udev_adds_to_properties_and_labels_otherwise.Goals as goal

pub returns : goal.returns
unfolding computed
returns c = refl
