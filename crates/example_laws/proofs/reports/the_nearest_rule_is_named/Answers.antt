use Rattle.std.proofs.Common.{refl}
use Rattle.example_laws.proofs.Computing.{computed}
use Rattle.example_laws.proofs.reports.the_nearest_rule_is_named.Goals as goal

pub returns : goal.returns
unfolding computed
returns c = record { above = refl; below = refl; as_near = refl; file = refl; near = refl; known = refl }
