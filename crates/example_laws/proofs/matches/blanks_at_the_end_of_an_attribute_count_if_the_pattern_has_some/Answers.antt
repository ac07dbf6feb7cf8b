use Rattle.std.proofs.Common.{refl}
use Rattle.example_laws.proofs.Computing.{computed}
use Rattle.example_laws.proofs.matches.blanks_at_the_end_of_an_attribute_count_if_the_pattern_has_some.Goals as goal

pub returns : goal.returns
unfolding computed
returns c = refl
