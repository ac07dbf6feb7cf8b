use Rattle.std.proofs.Common.{refl}
use Rattle.example_laws.proofs.Computing.{computed}
use Rattle.example_laws.proofs.udev.a_rule_in_which_nothing_counts_is_skipped_by_udev.Goals as goal

pub returns : goal.returns
unfolding computed
returns c = record { manual = refl; udev = refl }
