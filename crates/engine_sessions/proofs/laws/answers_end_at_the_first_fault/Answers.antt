use Rattle.std.proofs.Common.{map}
use Rattle.engine_sessions.proofs.LawLemmas.{good_blocks, faulty_after}
use Rattle.engine_sessions.proofs.laws.answers_end_at_the_first_fault.Goals as goal

pub returns : goal.returns
returns c = record {
  well = good_blocks;
  faulty = λ answer before events block fault following e f. faulty_after answer before (map answer events) block fault following (good_blocks answer before events e) f;
}
