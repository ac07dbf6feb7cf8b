use Rattle.std.proofs.Common.{refl}
use Rattle.example_laws.proofs.Computing.{computed}
use Rattle.example_laws.proofs.matches.a_match_lets_its_rule_go_on_if_it_holds.Goals as goal

pub returns : goal.returns
unfolding computed
returns c = record { equal = refl; other = refl; unequal = refl; unequal_other = refl }
