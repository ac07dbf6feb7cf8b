use Rattle.eval_state.proofs.Leading.{has_there}
use Rattle.eval_state.proofs.laws.what_the_device_has_is_there.Goals as goal

pub returns : goal.returns
returns c = has_there
