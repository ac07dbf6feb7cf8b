use Rattle.eval_laws.proofs.Landing.{jumps}
use Rattle.eval_laws.proofs.events.jumps_lead_to_the_next_label.Goals as goal

pub returns : goal.returns
returns c = jumps
