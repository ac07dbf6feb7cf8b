use Rattle.std.proofs.Common.{refl}
use Rattle.example_laws.proofs.Computing.{computed}
use Rattle.example_laws.proofs.assignments.what_is_written_is_kept_by_name.Goals as goal

pub returns : goal.returns
unfolding computed
returns c = record { written = refl; labels = refl; label = refl }
