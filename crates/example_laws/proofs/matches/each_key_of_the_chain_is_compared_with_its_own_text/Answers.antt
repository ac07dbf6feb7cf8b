use Rattle.std.proofs.Common.{refl}
use Rattle.example_laws.proofs.Computing.{computed}
use Rattle.example_laws.proofs.matches.each_key_of_the_chain_is_compared_with_its_own_text.Goals as goal

pub returns : goal.returns
unfolding computed
returns c = record { equal = refl; unequal = refl; together = refl }
