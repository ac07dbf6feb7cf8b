use Rattle.std.proofs.Common.{refl}
use Rattle.example_laws.proofs.Computing.{computed}
use Rattle.example_laws.proofs.udev.a_block_gives_what_udev_knows_of_the_machine.Goals as goal

pub returns : goal.returns
unfolding computed
returns c = record { given = refl; missing = refl; manual = refl }
