use Rattle.builtin_net.proofs.Placement.{stacked}
use Rattle.builtin_net.proofs.laws.stacked_interfaces_have_no_names.Goals as goal

pub returns : goal.returns
returns c = stacked
