use Rattle.std.proofs.Common.{refl}
use Rattle.example_laws.proofs.Computing.{computed}
use Rattle.example_laws.proofs.udev.an_attribute_that_is_absent_fails_both_for_udev.Goals as goal

pub returns : goal.returns
unfolding computed
returns c = record { some = refl; none = refl }
