use Rattle.std.proofs.Common.{refl}
use Rattle.example_laws.proofs.Computing.{computed}
use Rattle.example_laws.proofs.substitutions.an_attribute_is_that_of_the_event_device_or_of_the_selected_one.Goals as goal

pub returns : goal.returns
unfolding computed
returns c = refl
