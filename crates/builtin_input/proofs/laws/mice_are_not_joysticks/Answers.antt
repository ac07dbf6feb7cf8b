use Rattle.builtin_input.proofs.KindLaws.{mouse_apart}
use Rattle.builtin_input.proofs.laws.mice_are_not_joysticks.Goals as goal

pub returns : goal.returns
returns c = mouse_apart
