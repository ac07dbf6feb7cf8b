use Rattle.std.proofs.Common.{refl}
use Rattle.example_laws.proofs.Computing.{computed}
use Rattle.example_laws.proofs.udev.udev_takes_texts_otherwise.Goals as goal

pub returns : goal.returns
unfolding computed
returns c = record { manual = refl; udev = refl }
