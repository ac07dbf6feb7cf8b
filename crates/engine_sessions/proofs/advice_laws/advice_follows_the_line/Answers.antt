use Rattle.std.proofs.Common.{append-nil, refl}
use Rattle.engine_sessions.specs.BlockFaults.{block_line, block_said}
use Rattle.engine_sessions.proofs.advice_laws.advice_follows_the_line.Goals as goal

pub returns-clause-plain : goal.returns-clause-plain
unfolding block_said
returns-clause-plain c number fault = append-nil (block_line number fault)

pub returns-clause-people : goal.returns-clause-people
unfolding block_said
returns-clause-people c number fault = refl
