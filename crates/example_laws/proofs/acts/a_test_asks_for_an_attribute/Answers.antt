use Rattle.std.proofs.Common.{refl}
use Rattle.example_laws.proofs.Computing.{computed}
use Rattle.example_laws.proofs.acts.a_test_asks_for_an_attribute.Goals as goal

pub returns : goal.returns
unfolding computed
returns c = record { made = refl; unmade = refl }
