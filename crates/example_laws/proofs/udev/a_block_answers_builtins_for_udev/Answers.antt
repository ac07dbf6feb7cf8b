use Rattle.std.proofs.Common.{refl}
use Rattle.example_laws.proofs.Computing.{computed}
use Rattle.example_laws.proofs.udev.a_block_answers_builtins_for_udev.Goals as goal

pub returns : goal.returns
unfolding computed
returns c = refl
