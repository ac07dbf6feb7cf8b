use Rattle.std.proofs.Common.{refl}
use Rattle.example_laws.proofs.Computing.{computed}
use Rattle.example_laws.proofs.assignments.links_are_made_safe.Goals as goal

pub returns : goal.returns
unfolding computed
returns c = record { usual = refl; none = refl; replace = refl }
