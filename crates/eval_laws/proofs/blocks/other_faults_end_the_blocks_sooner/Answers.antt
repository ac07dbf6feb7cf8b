use Rattle.device_core.proofs.BlockLemmas.{blocks_end_sooner}
use Rattle.eval_laws.proofs.blocks.other_faults_end_the_blocks_sooner.Goals as goal

pub returns : goal.returns
returns c = blocks_end_sooner
