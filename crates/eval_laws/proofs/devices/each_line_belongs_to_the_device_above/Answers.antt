use Rattle.eval_laws.proofs.Grouping.{grouped}
use Rattle.eval_laws.proofs.devices.each_line_belongs_to_the_device_above.Goals as goal

pub returns : goal.returns
returns c = grouped
