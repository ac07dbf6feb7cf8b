use Rattle.std.proofs.Common.{refl}
use Rattle.example_laws.proofs.Computing.{computed}
use Rattle.example_laws.proofs.udev.udev_imports_what_a_program_prints.Goals as goal

pub returns : goal.returns
unfolding computed
returns c = refl
