use Rattle.std.proofs.Common.{refl}
use Rattle.example_laws.proofs.Computing.{computed}
use Rattle.example_laws.proofs.reports.what_the_block_does_not_answer_is_asked_once.Goals as goal

pub returns : goal.returns
unfolding computed
returns c = record { asked = refl; answered = refl; stopped = refl }
