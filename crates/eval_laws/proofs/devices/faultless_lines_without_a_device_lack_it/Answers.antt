use Rattle.eval_laws.proofs.LeastFault.{lacks_device}
use Rattle.eval_laws.proofs.devices.faultless_lines_without_a_device_lack_it.Goals as goal

pub returns : goal.returns
returns c = lacks_device
