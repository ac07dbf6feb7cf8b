use Rattle.std.proofs.Common.{refl}
use Rattle.example_laws.proofs.Computing.{computed}
use Rattle.example_laws.proofs.udev.what_searches_and_assignments_ask_for_and_is_not_read_is_noted_for_udev.Goals as goal

pub returns : goal.returns
unfolding computed
returns c = record { searched = refl; udev = refl; sourced = refl; manual = refl }
