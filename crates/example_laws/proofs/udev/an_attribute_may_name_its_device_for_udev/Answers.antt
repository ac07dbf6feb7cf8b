use Rattle.std.proofs.Common.{refl}
use Rattle.example_laws.proofs.Computing.{computed}
use Rattle.example_laws.proofs.udev.an_attribute_may_name_its_device_for_udev.Goals as goal

pub returns : goal.returns
unfolding computed
returns c = refl
