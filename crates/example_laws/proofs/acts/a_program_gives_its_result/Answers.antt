use Rattle.std.proofs.Common.{refl}
use Rattle.example_laws.proofs.Computing.{computed}
use Rattle.example_laws.proofs.acts.a_program_gives_its_result.Goals as goal

pub returns : goal.returns
unfolding computed
returns c = refl
