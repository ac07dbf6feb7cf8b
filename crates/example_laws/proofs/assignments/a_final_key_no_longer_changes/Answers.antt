use Rattle.std.proofs.Common.{refl}
use Rattle.example_laws.proofs.Computing.{computed}
use Rattle.example_laws.proofs.assignments.a_final_key_no_longer_changes.Goals as goal

pub returns : goal.returns
unfolding computed
returns c = record { device = refl; lists = refl; others = refl }
