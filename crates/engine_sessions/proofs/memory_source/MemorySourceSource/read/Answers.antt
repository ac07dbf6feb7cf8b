use Rattle.std.proofs.Common.{arith, rules}
use Rattle.std.proofs.lemmas.Grind.{common_steps}
use Rattle.engine_sessions.proofs.Reported.{cuts-append, given-is}
use Rattle.engine_sessions.proofs.memory_source.MemorySourceSource.read.Goals as goal

pub returns-clause-gives : goal.returns-clause-gives
returns-clause-gives c = record {
  pieces = grind (arith, common_steps, cuts-append);
  left = grind (arith, common_steps, given-is);
  reads = search rules;
  well = search rules;
}
