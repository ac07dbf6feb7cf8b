use Rattle.eval_laws.proofs.LeastFault.{least_counts}
use Rattle.eval_laws.proofs.devices.the_least_faulty_line_counts.Goals as goal

pub returns : goal.returns
returns c = least_counts
