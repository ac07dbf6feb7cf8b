use Rattle.std.proofs.Common.{refl}
use Rattle.example_laws.proofs.Computing.{computed}
use Rattle.example_laws.proofs.udev.udev_compares_some_values_otherwise.Goals as goal

pub returns : goal.returns
unfolding computed
returns c = record { udev = refl; manual = refl }
