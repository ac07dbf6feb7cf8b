use Rattle.std.proofs.Common.{refl}
use Rattle.example_laws.proofs.Computing.{computed}
use Rattle.example_laws.proofs.udev.udev_notes_what_is_odd_about_a_block.Goals as goal

pub returns : goal.returns
unfolding computed
returns c = record { two = refl; stored = refl; later = refl; sourced = refl; subsystem = refl; manual = refl }
