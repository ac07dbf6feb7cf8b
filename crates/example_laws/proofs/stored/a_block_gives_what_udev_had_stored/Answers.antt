use Rattle.std.proofs.Common.{refl}
use Rattle.example_laws.proofs.Computing.{computed}
use Rattle.example_laws.proofs.stored.a_block_gives_what_udev_had_stored.Goals as goal

pub returns : goal.returns
unfolding computed
returns c = record { given = refl; removed = refl; missing = refl; manual = refl }
