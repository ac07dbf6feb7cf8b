use Rattle.std.proofs.Common.{refl}
use Rattle.example_laws.proofs.Computing.{computed}
use Rattle.example_laws.proofs.acts.a_program_that_fails_stops_its_rule.Goals as goal

pub returns : goal.returns
unfolding computed
returns c = record { failed = refl; unanswered = refl; negated = refl }
