use Rattle.eval_laws.proofs.DeviceWeights.{event_within}
use Rattle.eval_laws.proofs.devices.an_event_weighs_no_more_than_its_block.Goals as goal

pub returns : goal.returns
returns c = event_within
