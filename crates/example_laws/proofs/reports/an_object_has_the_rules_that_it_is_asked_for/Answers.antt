use Rattle.std.proofs.Common.{refl}
use Rattle.example_laws.proofs.Computing.{computed}
use Rattle.example_laws.proofs.reports.an_object_has_the_rules_that_it_is_asked_for.Goals as goal

pub returns : goal.returns
unfolding computed
returns c = record { sources = refl; plain = refl }
