use Rattle.device_core.proofs.Reading.{too_long, event_from, fault_from}
use Rattle.device_core.proofs.read.read_block.Goals as goal

pub returns-then-block-gt-MAX_BYTES-clause-fault : goal.returns-then-block-gt-MAX_BYTES-clause-fault
returns-then-block-gt-MAX_BYTES-clause-fault c h = too_long c.args.block.now c.line_of_excess.result c.if-block-gt-MAX_BYTES.true c.line_of_excess.ensures

pub returns-clause-event : goal.returns-clause-event
returns-clause-event c = event_from c.args.block.now c.if-block-gt-MAX_BYTES.false c.read_lines.result c.read_lines.ensures

pub returns-clause-fault : goal.returns-clause-fault
returns-clause-fault c = fault_from c.args.block.now c.if-block-gt-MAX_BYTES.false c.read_lines.result c.read_lines.ensures
