use Rattle.device_core.proofs.BlockLemmas.{finds_blocks}
use Rattle.eval_laws.proofs.blocks.blocks_end_at_the_first_fault.Goals as goal

pub returns : goal.returns
returns c = finds_blocks
