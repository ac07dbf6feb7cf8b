use Rattle.std.proofs.Common.{refl}
use Rattle.example_laws.proofs.Computing.{computed}
use Rattle.example_laws.proofs.udev.an_attribute_of_a_device_elsewhere_may_be_given_for_udev.Goals as goal

pub returns : goal.returns
unfolding computed
returns c = refl
