use Rattle.std.proofs.Common.{refl}
use Rattle.example_laws.proofs.Computing.{computed}
use Rattle.example_laws.proofs.substitutions.each_substitution_has_its_own_text.Goals as goal

pub returns : goal.returns
unfolding computed
returns c = record { long = refl; short = refl }
