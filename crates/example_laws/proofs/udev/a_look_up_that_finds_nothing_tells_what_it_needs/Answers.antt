use Rattle.std.proofs.Common.{refl}
use Rattle.example_laws.proofs.Computing.{computed}
use Rattle.example_laws.proofs.udev.a_look_up_that_finds_nothing_tells_what_it_needs.Goals as goal

pub returns : goal.returns
unfolding computed
returns c = record { udev = refl; last = refl; manual = refl }
