use Rattle.std.proofs.Common.{refl}
use Rattle.example_laws.proofs.Computing.{computed}
use Rattle.example_laws.proofs.reports.each_assignment_says_what_became_of_its_own_items.Goals as goal

pub returns : goal.returns
unfolding computed
returns c = record { lists = refl; lists_as_udev = refl; keys = refl; keys_as_udev = refl }
