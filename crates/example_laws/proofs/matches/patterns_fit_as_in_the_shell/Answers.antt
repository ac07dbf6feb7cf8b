use Rattle.std.proofs.Common.{refl}
use Rattle.example_laws.proofs.Computing.{computed}
use Rattle.example_laws.proofs.matches.patterns_fit_as_in_the_shell.Goals as goal

pub returns : goal.returns
unfolding computed
returns c = refl
