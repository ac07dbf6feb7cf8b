use Rattle.builtin_net.proofs.Placement.{forbidden}
use Rattle.builtin_net.proofs.laws.forbidden_interfaces_fail.Goals as goal

pub returns : goal.returns
returns c = forbidden
