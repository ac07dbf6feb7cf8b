use Rattle.eval_laws.proofs.LeastFault.{event_says}
use Rattle.eval_laws.proofs.devices.an_event_is_that_of_its_lines.Goals as goal

pub returns : goal.returns
returns c = event_says
